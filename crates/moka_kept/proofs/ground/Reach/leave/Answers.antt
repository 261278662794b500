-- The call leaves the world that is kept, where the desk allows it.
use Rattle.std.proofs.Common.{Option, sym, ◌∙◌, subst}
use Rattle.std.proofs.lemmas.Bool.{false≢true}
use Rattle.moka_hist.specs.Conditions.{MayLeave}
use Rattle.moka_hist.specs.Dropping.{left}
use Rattle.moka_hist.specs.Plan.{held_by}
use Rattle.moka_hist.specs.declared.writes.Write.{Write}
use Rattle.moka_desk.specs.StandsFor.{StandsFor}
use Rattle.moka_init.specs.FlowPlan.{call_of}
use Rattle.moka_kept.proofs.ground.Reach.leave.Goals as goal

pub leave_allowed-requires-clause-may : goal.leave_allowed-requires-clause-may
leave_allowed-requires-clause-may g c = λ w stands. (c.may_leave.ensures w stands).0 c.in-true.is

pub returns-in-true-clause-left : goal.returns-in-true-clause-left
returns-in-true-clause-left g c = λ w stands.
    let flow = c.args.flow.now in
    subst (λ n. StandsFor g.K.PartialEq.eq c.leave_allowed.new.self.layers.desk (left w n (held_by (call_of flow).plan))) c.number-call.ensures
    (subst (λ (o : Option Write). StandsFor g.K.PartialEq.eq c.leave_allowed.new.self.layers.desk (left w c.number-call.result o)) c.held-held.ensures
    (c.leave_allowed.ensures.left w stands))

pub returns-in-false-clause-refused : goal.returns-in-false-clause-refused
returns-in-false-clause-refused g c = λ w stands may.
    let held = held_by (call_of c.args.flow.now).plan in
    let numbered = subst (λ n. MayLeave w n held) (sym c.number-call.ensures) may in
    let holding = subst (λ (o : Option Write). MayLeave w c.number-call.result o) (sym c.held-held.ensures) numbered in
    false≢true (sym c.in-false.is ∙ (c.may_leave.ensures w stands).1 holding)
