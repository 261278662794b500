use Rattle.moka_history.proofs.Owners.{set_same}
use Rattle.std.proofs.Common.{◌∙◌}
use Rattle.moka_history.proofs.keeping.look_keeps.Goals as goal

pub returns : goal.returns
returns g c = record { keeps = λ eq hash place cells log holds k below home. (set_same cells k home ∙ holds.0, holds.1) }
