-- A step of a live call is the reference's, and without memory the call is back as it was.
use Rattle.std.proofs.Common.{◌≡◌, ℕ, Some, refl, sym, ap, subst, ◌∙◌}
use Rattle.std.proofs.lemmas.Result.{IfOk-weaker, on_err_weaker}
use Rattle.moka_hist.specs.State.{State}
use Rattle.moka_hist.specs.Step.{May, access_of, state_after}
use Rattle.moka_init.specs.FlowPlan.{call_of}
use Rattle.moka_init.specs.Grounds.{access_at}
use Rattle.moka_layers.specs.Needing.{StepNeedsMemory}
use Rattle.moka_init.proofs.Going.{moves_none}
use Rattle.moka_laws.proofs.Outcomes.{put_same}
use Rattle.moka_machine.specs.Machine.{MachineIs}
use Rattle.moka_machine.proofs.Happening.{happens_step, match_none, on_err_both}
use Rattle.moka_machine.proofs.Needing.{call_needs}
use Rattle.moka_machine.proofs.machine.Machine.step.Goals as goal

pub step_out-requires-clause-out : goal.step_out-requires-clause-out
step_out-requires-clause-out g c =
    let v = c.requires.valid in
    (c.in-Some.ensures.some v.state v.stands).1

pub step_out-requires-clause-may : goal.step_out-requires-clause-may
step_out-requires-clause-may g c =
    let v = c.requires.valid in
    let t = c.in-Some.ensures.some v.state v.stands in
    let n = c.args.call in
    let d = call_of c.in-Some.flow.value in
    let number : c.in-Some.flow.value.call ≡ n = sym t.1.on.call ∙ t.0.rest.number in
    let safe = c.calls_are_safe.ensures.safe v.state n d v.reached t.0.live in
    (v.state.world, t.0.rest.reaches, subst (λ (k : ℕ). May v.state.world (access_of k d)) (sym number) (safe 0 d v.state.world (moves_none g.K.PartialEq.eq n d v.state.world)))

pub returns-in-Some-clause-serves : goal.returns-in-Some-clause-serves
returns-in-Some-clause-serves g c = IfOk-weaker c.step_out.result _ _ (λ r steps s stands reached.
    let n = c.args.call in
    let d = call_of c.in-Some.flow.value in
    let t = c.in-Some.ensures.some s stands in
    let number : c.in-Some.flow.value.call ≡ n = sym t.1.on.call ∙ t.0.rest.number in
    let safe = c.calls_are_safe.ensures.safe s n d reached t.0.live in
    let may : May s.world (access_at c.in-Some.flow.value) =
    subst (λ (m : ℕ). May s.world (access_of m d)) (sym number) (safe 0 d s.world (moves_none g.K.PartialEq.eq n d s.world)) in
    let m = steps s.calls s.world t.0.rest may in
    let after = state_after s n m.1 m.0 in
    (after, happens_step g.K.PartialEq.eq s n d r after t.0.live (record { turn = m.0.turn; step = c.move_is_step.ensures.step s n d m.0 m.1 t.0.live m.2; reply = m.3 }), m.4))
    c.step_out.ensures.steps

pub returns-in-Some-clause-err : goal.returns-in-Some-clause-err
returns-in-Some-clause-err g c = on_err_weaker c.step_out.result (λ keeps s stands.
    let t = c.in-Some.ensures.some s stands in
    subst (λ (u : State g.row.K.Denot g.row.V.Denot g.row.E.Denot). MachineIs g.K.PartialEq.eq g.T.Tests c.step_out.new.self u)
    (ap (λ f. record s { calls = f }) (put_same s.calls c.args.call (Some (call_of c.in-Some.flow.value)) t.0.live))
    (keeps s.calls s.world t.0.rest))
    c.step_out.ensures.err

pub returns-in-Some-clause-err_needs : goal.returns-in-Some-clause-err_needs
returns-in-Some-clause-err_needs g c =
    let v = c.requires.valid in
    let n = c.args.call in
    let d = call_of c.in-Some.flow.value in
    let t = c.in-Some.ensures.some v.state v.stands in
    let number : c.in-Some.flow.value.call ≡ n = sym t.1.on.call ∙ t.0.rest.number in
    let safe = c.calls_are_safe.ensures.safe v.state n d v.reached t.0.live in
    let may : May v.state.world (access_at c.in-Some.flow.value) =
    subst (λ (m : ℕ). May v.state.world (access_of m d)) (sym number) (safe 0 d v.state.world (moves_none g.K.PartialEq.eq n d v.state.world)) in
    on_err_weaker c.step_out.result (λ both s stands.
    call_needs g.K.PartialEq.eq g.T.Tests c.step_out.new.self n d v.state.calls v.state.world s
    (both.0 v.state.calls v.state.world t.0.rest) stands (subst (λ (m : ℕ). StepNeedsMemory v.state.world (access_of m d)) number (both.1 v.state.world t.0.rest.reaches may)))
    (on_err_both c.step_out.result _ _ c.step_out.ensures.err c.step_out.ensures.err_needs)

pub returns-in-None-clause-serves : goal.returns-in-None-clause-serves
returns-in-None-clause-serves g c = λ s h reached.
    (s, match_none (s.calls c.args.call) _ _ (c.in-None.ensures.none s h) (record { reply = refl; same = refl }), c.in-None.ensures.same s h)
