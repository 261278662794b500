-- The keys that are left are at first all that were listed.
use Rattle.std.proofs.Common.{List, Some, subst}
use Rattle.moka_hist.specs.Next.{goes}
use Rattle.moka_init.specs.FlowPlan.{GoesOn, standing_with}
use Rattle.moka_init.specs.PointPlan.{keys_to_retire}
use Rattle.moka_init.proofs.flow.Flow.looks_at.Goals as goal

pub returns : goal.returns
returns g c = λ items.
    let there = λ (keys : List g.row.K.Denot).
    GoesOn c.args.self.now (goes (standing_with c.args.self.now (Some c.args.ids) items)
    (keys_to_retire (record { keys = keys; part = c.args.part }))) c.looks_on.result c.looks_on.new.self in
    subst there c.new-keys.ensures (c.looks_on.ensures items)
