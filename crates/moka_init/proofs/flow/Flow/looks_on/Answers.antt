-- The call goes on where its next look is.
use Rattle.std.proofs.Common.{sym}
use Rattle.moka_init.specs.PointPlan.{keys_to_retire}
use Rattle.moka_init.proofs.Maintained.{goes_there}
use Rattle.moka_init.proofs.flow.Flow.looks_on.Goals as goal

pub returns : goal.returns
returns g c = λ items. rw (c.goes.ensures.turn, c.goes.ensures.flow)
    (goes_there c.args.self.now c.args.ids items (keys_to_retire c.args.rest) c.after.result (sym c.after.ensures.plan) c.after.ensures.carries)
