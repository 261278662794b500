-- A poll of a live call is the reference's, and without memory so far as it came.
use Rattle.std.proofs.Common.{◌≡◌, ℕ, refl, sym, subst, ◌∙◌}
use Rattle.std.proofs.lemmas.Result.{IfOk-weaker, IfErr-weaker}
use Rattle.moka_hist.specs.Step.{IsSafe, state_after}
use Rattle.moka_hist.specs.Run.{Any, Happens}
use Rattle.moka_hist.specs.declared.events.Event.TheVariants as event
use Rattle.moka_hist.specs.declared.replies.Reply.{Reply}
use Rattle.moka_laws.specs.Moving.{gone_on}
use Rattle.moka_init.specs.FlowPlan.{call_of}
use Rattle.moka_machine.proofs.Happening.{match_none, on_err_if}
use Rattle.moka_machine.proofs.Needing.{call_needs}
use Rattle.moka_machine.proofs.machine.Machine.poll.Goals as goal

pub returns-in-Some-clause-serves : goal.returns-in-Some-clause-serves
returns-in-Some-clause-serves g c = IfOk-weaker c.poll_out.result _ _ (λ r polls s stands reached.
    let n = c.args.call in
    let d = call_of c.in-Some.flow.value in
    let t = c.in-Some.ensures.some s stands in
    let m = polls s.calls s.world t.0.rest (c.calls_are_safe.ensures.safe s n d reached t.0.live) in
    let after = state_after s n m.1 m.0 in
    (after, subst (λ (x : Reply g.row.K.Denot g.row.V.Denot g.row.E.Denot). Happens g.K.PartialEq.eq Any s (event.Poll n) x after) (sym m.3) (c.polled_is_poll.ensures.poll s n d m.0 m.1 t.0.live m.2), m.4))
    c.poll_out.ensures.polls

pub returns-in-Some-clause-stops : goal.returns-in-Some-clause-stops
returns-in-Some-clause-stops g c = IfErr-weaker c.poll_out.result _ _ (λ u stops s stands reached.
    let n = c.args.call in
    let d = call_of c.in-Some.flow.value in
    let t = c.in-Some.ensures.some s stands in
    let m = stops.2 s.calls s.world t.0.rest (c.calls_are_safe.ensures.safe s n d reached t.0.live) in
    (gone_on s n m.0 m.1, (stops.0, stops.1, c.moves_are_steps.ensures.steps s n stops.0 d m.0 m.1 t.0.live m.2), m.3))
    c.poll_out.ensures.unfinished

pub poll_out-requires-clause-out : goal.poll_out-requires-clause-out
poll_out-requires-clause-out g c =
    let v = c.requires.valid in
    (c.in-Some.ensures.some v.state v.stands).1

pub poll_out-requires-clause-safe : goal.poll_out-requires-clause-safe
poll_out-requires-clause-safe g c =
    let v = c.requires.valid in
    let d = call_of c.in-Some.flow.value in
    let t = c.in-Some.ensures.some v.state v.stands in
    let number : c.in-Some.flow.value.call ≡ c.args.call = sym t.1.on.call ∙ t.0.rest.number in (
      v.state.world,
      t.0.rest.reaches,
      subst (λ (n : ℕ). IsSafe g.K.PartialEq.eq n d v.state.world) (sym number) (c.calls_are_safe.ensures.safe v.state c.args.call d v.reached t.0.live),
      c.logs_have_room.ensures.room v.state v.reached,
    )

pub returns-in-Some-clause-needs : goal.returns-in-Some-clause-needs
returns-in-Some-clause-needs g c =
    let v = c.requires.valid in
    let n = c.args.call in
    let t = c.in-Some.ensures.some v.state v.stands in
    on_err_if c.poll_out.result _ _ (λ u stops s stands.
    let m = stops.2 v.state.calls v.state.world t.0.rest (c.calls_are_safe.ensures.safe v.state n (call_of c.in-Some.flow.value) v.reached t.0.live) in
    call_needs g.K.PartialEq.eq g.T.Tests c.poll_out.new.self n m.0 v.state.calls m.1 s m.3 stands m.4)
    c.poll_out.ensures.unfinished

pub returns-in-None-clause-serves : goal.returns-in-None-clause-serves
returns-in-None-clause-serves g c = λ s h reached.
    (s, match_none (s.calls c.args.call) _ _ (c.in-None.ensures.none s h) (record { reply = refl; same = refl }), c.in-None.ensures.same s h)
