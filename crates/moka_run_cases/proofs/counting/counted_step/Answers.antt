-- A live call is safe where it was taken out.
use Rattle.std.proofs.Common.{◌≡◌, ℕ, sym, subst, ◌∙◌}
use Rattle.moka_hist.specs.Step.{May, access_of}
use Rattle.moka_init.specs.FlowPlan.{call_of}
use Rattle.moka_init.proofs.Going.{moves_none}
use Rattle.moka_run_cases.proofs.counting.counted_step.Goals as goal

pub step_out-requires-clause-out : goal.step_out-requires-clause-out
step_out-requires-clause-out g c =
    let v = c.requires.valid in
    (c.in-Some.ensures.some v.state v.stands).1

pub step_out-requires-clause-taken : goal.step_out-requires-clause-taken
step_out-requires-clause-taken g c =
    let v = c.requires.valid in
    let d = call_of c.in-Some.flow.value in
    let t = c.in-Some.ensures.some v.state v.stands in
    let number : c.in-Some.flow.value.call ≡ c.args.call = sym t.1.on.call ∙ t.0.rest.number in
    let safe = c.calls_are_safe.ensures.safe v.state c.args.call d v.reached t.0.live in (
      v.state,
      t.0,
      v.reached,
      subst (λ (n : ℕ). May v.state.world (access_of n d)) (sym number) (safe 0 d v.state.world (moves_none g.K.PartialEq.eq c.args.call d v.state.world)),
    )

pub returns-in-None : goal.returns-in-None
returns-in-None g c =
    let v = c.requires.valid in
    record { state = v.state; stands = c.in-None.ensures.same v.state v.stands; reached = v.reached }
