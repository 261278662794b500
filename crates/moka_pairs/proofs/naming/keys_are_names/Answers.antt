use Rattle.moka_pairs.proofs.Names.{names_keys}
use Rattle.moka_pairs.proofs.naming.keys_are_names.Goals as goal

pub returns : goal.returns
returns g c = record { names = names_keys }
