-- The listed keys are looked up.
use Rattle.std.proofs.Common.{◌∷◌}
use Rattle.moka_hist.specs.Plan as plan
use Rattle.moka_init.specs.PointPlan.{later_to_retire}
use Rattle.moka_init.proofs.flow.Flow.after_part.Goals as goal

pub returns-in-Decided-Keys : goal.returns-in-Decided-Keys
returns-in-Decided-Keys g c =
    rw (c.in-Decided-Keys.is, c.in-Decided-Keys.field-0-is, c.in-Decided-Keys.keys-is)
    (c.looks_at.ensures (plan.List_keys c.args.part.number ∷ later_to_retire c.args.part))
