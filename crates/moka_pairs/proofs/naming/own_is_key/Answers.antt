use Rattle.moka_pairs.proofs.Names.{is_key_for}
use Rattle.moka_pairs.proofs.naming.own_is_key.Goals as goal

pub returns : goal.returns
returns g c = record { own = is_key_for }
