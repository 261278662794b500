-- Its first steps take nothing, and leave it so.
use Rattle.std.proofs.Common.{◌<◌, sym, subst}
use Rattle.futures.specs.Task.{IsArmed}
use Rattle.moka_hist.specs.Run.{fresh_call}
use Rattle.moka_hist.specs.State.{Call}
use Rattle.moka_init.specs.FlowPlan.{call_of, tested_in}
use Rattle.moka_kept.specs.Entering.{EnteredIs, IfGoes, entered_so}
use Rattle.moka_kept.specs.Facts.{facts}
use Rattle.moka_kept.specs.Meets.{CallMeets, StopSo}
use Rattle.moka_kept.specs.Parked.{IsOwn}
use Rattle.moka_kept.specs.Stops.{IsWaiting, task_in}
use Rattle.moka_kept.specs.Taking.{Brings, NoAnswer}
use Rattle.moka_kept.specs.declared.brought.Brought.TheVariants as brought
use Rattle.moka_kept.specs.declared.entered.Entered.{Entered}
use Rattle.moka_kept.proofs.FirstHold.{entered_is, goes_with, over_stopped}
use Rattle.moka_kept.proofs.Stopping.{meets_less, stops_weaker}
use Rattle.moka_kept.proofs.kept.Kept.first.Goals as goal

pub go-stop-requires-clause-rests : goal.go-stop-requires-clause-rests
go-stop-requires-clause-rests g c = c.begin-flow.ensures.rests

pub go-stop-requires-clause-so : goal.go-stop-requires-clause-so
go-stop-requires-clause-so g c =
    let f = facts g.K.PartialEq.eq g.P.Fact.holds in
    let flow = c.begin-flow.result in
    meets_less f c.args.key.now (Brings (tested_in (call_of flow).plan) brought.Nothing) NoAnswer (λ t none. absurd none) flow.call (call_of flow)
    (subst (λ (x : Call g.row.K.Denot g.row.V.Denot g.row.E.Denot). CallMeets f c.args.key.now NoAnswer flow.call x) (sym c.begin-flow.ensures.fresh) (c.requires.so flow.call))

pub of-requires : goal.of-requires
of-requires g c = record {
  over = over_stopped (facts g.K.PartialEq.eq g.P.Fact.holds) (Brings (tested_in (call_of c.begin-flow.result).plan) brought.Nothing) c.begin-flow.result c.go-stop.result c.go-stop.new.self c.go-stop.ensures.stops;
}

pub returns-clause-begins : goal.returns-clause-begins
returns-clause-begins g c =
    let f = facts g.K.PartialEq.eq g.P.Fact.holds in
    let flow = c.begin-flow.result in
    subst (λ (x : Entered g.row.K.Denot g.row.V.Denot g.row.E.Denot). EnteredIs f NoAnswer (fresh_call 1 c.args.rules c.args.start) x) (sym c.of.ensures)
    (subst (λ (x : Call g.row.K.Denot g.row.V.Denot g.row.E.Denot). EnteredIs f NoAnswer x (entered_so c.go-stop.new.self c.go-stop.result)) c.begin-flow.ensures.fresh
    (entered_is f NoAnswer flow (subst (λ n. 0 < n) (sym c.begin-flow.ensures.number) c.requires.first) c.begin-flow.ensures.rests c.go-stop.result c.go-stop.new.self
    (stops_weaker f (Brings (tested_in (call_of flow).plan) brought.Nothing) NoAnswer (λ t none. absurd none) flow c.go-stop.result c.go-stop.new.self c.go-stop.ensures.stops)))

pub returns-clause-so : goal.returns-clause-so
returns-clause-so g c =
    let f = facts g.K.PartialEq.eq g.P.Fact.holds in
    subst (λ (x : Entered g.row.K.Denot g.row.V.Denot g.row.E.Denot). IfGoes x (λ flow stop. StopSo f stop)) (sym c.of.ensures)
    (goes_with (λ flow stop. StopSo f stop) c.go-stop.result c.go-stop.new.self c.go-stop.ensures.so)

pub returns-clause-armed : goal.returns-clause-armed
returns-clause-armed g c =
    subst (λ (x : Entered g.row.K.Denot g.row.V.Denot g.row.E.Denot). IfGoes x (λ flow stop. IsWaiting stop → IsArmed c.go-stop.new.cx)) (sym c.of.ensures)
    (goes_with (λ flow stop. IsWaiting stop → IsArmed c.go-stop.new.cx) c.go-stop.result c.go-stop.new.self c.go-stop.ensures.armed)

pub returns-clause-own : goal.returns-clause-own
returns-clause-own g c =
    subst (λ (x : Entered g.row.K.Denot g.row.V.Denot g.row.E.Denot). IfGoes x (λ flow stop. IsWaiting stop → IsOwn (task_in stop) flow.call c.go-stop.new.cx)) (sym c.of.ensures)
    (goes_with (λ flow stop. IsWaiting stop → IsOwn (task_in stop) flow.call c.go-stop.new.cx) c.go-stop.result c.go-stop.new.self c.go-stop.ensures.own)
