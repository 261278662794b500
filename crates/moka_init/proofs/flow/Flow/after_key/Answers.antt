-- A key whose record has left is passed over.
use Rattle.std.proofs.Common.{◌∷◌}
use Rattle.moka_hist.specs.Plan as plan
use Rattle.moka_init.specs.PointPlan.{keys_to_retire}
use Rattle.moka_init.proofs.flow.Flow.after_key.Goals as goal

pub returns-in-Decided-None : goal.returns-in-Decided-None
returns-in-Decided-None g c =
    rw (c.in-Decided-None.is, c.in-Decided-None.field-0-is)
    (c.looks_on.ensures (plan.Find c.args.key ∷ keys_to_retire c.args.rest))
