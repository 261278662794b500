-- The flow is the one that `stands_at` leaves, whatever shows that it has read few dropped owners.
use Rattle.std.proofs.Common.{◌≡◌, subst}
use Rattle.std.proofs.Math.Bridge.{le_prop}
use Rattle.moka_hist.specs.declared.records.Mode.TheVariants as mode
use Rattle.moka_init.proofs.flow.Flow.gives.Goals as goal

pub returns-clause-flow : goal.returns-clause-flow
returns-clause-flow g c =
    subst (λ few. c.stands_at.new.self
    ≡ record c.args.self.now { mode = mode.Parked; point = c.args.point; few = few })
    (le_prop _ c.args.self.now.few) c.stands_at.ensures
