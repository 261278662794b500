use Rattle.moka_history.proofs.Beginning.{opened_is}
use Rattle.moka_history.proofs.changing.opened_is_sound.Goals as goal

pub returns : goal.returns
returns g c = record { sound = λ hash same mine segments length i hasher power below. opened_is _ _ segments length hasher hash same mine i power below }
