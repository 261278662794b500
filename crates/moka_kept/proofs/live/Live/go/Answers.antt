-- Its steps are those of its flow.
use Rattle.std.proofs.Common.{sym, subst}
use Rattle.moka_init.specs.FlowPlan.{call_of, tested_in}
use Rattle.moka_init.specs.declared.flow.Flow.{Flow}
use Rattle.moka_kept.specs.Facts.{facts}
use Rattle.moka_kept.specs.Meets.{FlowMeets}
use Rattle.moka_kept.specs.Stops.{StopIs}
use Rattle.moka_kept.specs.Taking.{Brings}
use Rattle.moka_kept.proofs.live.Live.go.Goals as goal

pub returns-clause-stops : goal.returns-clause-stops
returns-clause-stops g c =
    subst (λ (f : Flow g.row.K.Denot g.row.V.Denot g.row.E.Denot). StopIs (facts g.K.PartialEq.eq g.P.Fact.holds) (Brings (tested_in (call_of f).plan) c.args.brought) f c.go.result c.go.new.flow) c.self.view_is
    c.go.ensures.stops

pub go-requires-clause-so : goal.go-requires-clause-so
go-requires-clause-so g c =
    subst (λ (f : Flow g.row.K.Denot g.row.V.Denot g.row.E.Denot). FlowMeets (facts g.K.PartialEq.eq g.P.Fact.holds) c.args.key.now (Brings (tested_in (call_of f).plan) c.args.brought) f) (sym c.self.view_is)
    c.requires.so
