-- A notice goes on alike whatever its cause.
use Rattle.std.proofs.Common.{sym, subst}
use Rattle.moka_hist.specs.Step.{next_of}
use Rattle.moka_hist.specs.declared.accesses.Got.TheVariants as got
use Rattle.moka_init.specs.FlowPlan.{standing, GoesOn}
use Rattle.moka_init.specs.PointPlan.{listening_plan}
use Rattle.moka_init.specs.declared.points.Listening.{Listening}
use Rattle.moka_init.proofs.flow.Flow.after_listening.Goals as goal

pub returns-in-Notice : goal.returns-in-Notice
returns-in-Notice g c =
    let old = c.args.self.now in
    subst (λ (l : Listening g.row.K.Denot g.row.V.Denot).
    GoesOn old (next_of old.call (standing old (listening_plan l)) (got.Desk c.args.found))
    c.after_notice.result c.after_notice.new.self)
    (sym c.in-Notice.is) (c.after_notice.ensures c.in-Notice.cause c.in-Notice.upsert)
