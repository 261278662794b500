-- The walk goes on with the predicates that are left.
use Rattle.std.proofs.Common.{◌∷◌}
use Rattle.moka_hist.specs.Plan as plan
use Rattle.moka_init.specs.PointPlan.{keys_to_retire}
use Rattle.moka_init.proofs.flow.Flow.after_strike.Goals as goal

pub returns : goal.returns
returns g c = rw c.in-Strike.is (c.looks_on.ensures (plan.Strike c.args.key c.args.stored ∷ keys_to_retire c.args.rest))
