-- The step leaves a reached state, and without memory the call is back as it was.
use Rattle.std.proofs.Common.{◌≡◌, ℕ, Bool, Some, sym, ap, subst, ◌∙◌}
use Rattle.std.specs.declared.cmp.PartialEq as PartialEq
use Rattle.std.specs.declared.hash.Hash as Hash
use Rattle.moka_hist.specs.Step.{May, CallMoves, state_after}
use Rattle.moka_hist.specs.State.{Call, State}
use Rattle.moka_hist.specs.Run.{IsReached}
use Rattle.moka_hist.specs.Finite.{put_at}
use Rattle.moka_hist.specs.declared.record_tests.Tests as Tests
use Rattle.moka_init.specs.declared.flow.Flow.{Flow}
use Rattle.moka_init.specs.FlowPlan.{call_of, next_in}
use Rattle.moka_init.specs.Grounds.{access_at}
use Rattle.moka_init.proofs.Going.{may_want}
use Rattle.moka_init.proofs.Stepping.{moves_in}
use Rattle.moka_laws.proofs.Outcomes.{put_same}
use Rattle.moka_machine.specs.Machine.{IsOut, MachineIs, Reaches, TakenOut}
use Rattle.moka_machine.specs.declared.machine.Machine.{Machine}
use Rattle.moka_machine.proofs.Stepping.{still_without, still_out}
use Rattle.moka_run_cases.proofs.counting.step_out.Goals as goal

module _ {K V E T : Type 0} {same : PartialEq.Ghosts K} {hash : Hash.Ghosts K} where
  -- the call was taken out of a state that a run can reach, and may step
  abbrev Taken : (K → K → Bool) → Tests.Ghosts T K V → Machine K V E T same hash → ℕ → Flow K V E → Type 0
  Taken eq q m n flow = (s : State K V E) × TakenOut eq q m n flow s × IsReached eq s × May s.world (access_at flow)

pub step-stepped-requires-clause-fits : goal.step-stepped-requires-clause-fits
step-stepped-requires-clause-fits g c =
    let eq = g.K.PartialEq.eq in
    let flow = c.deref_mut.result.now in
    let same : flow ≡ c.args.flow.value = c.deref_mut.ensures.value in
    let taken = subst (λ (f : Flow g.row.K.Denot g.row.V.Denot g.row.E.Denot). Taken eq g.T.Tests c.args.machine c.args.call f) (sym same) c.requires.taken in
    let was = subst (λ (f : Flow g.row.K.Denot g.row.V.Denot g.row.E.Denot). IsOut eq c.args.machine f) (sym same) c.requires.out in
    (taken.0.world, taken.1.rest.reaches, may_want _ flow taken.0.world was.on.begun taken.3)

pub returns-in-Ok : goal.returns-in-Ok
returns-in-Ok g c =
    let eq = g.K.PartialEq.eq in
    let flow = c.deref_mut.result.now in
    let same : flow ≡ c.args.flow.value = c.deref_mut.ensures.value in
    let taken = subst (λ (f : Flow g.row.K.Denot g.row.V.Denot g.row.E.Denot). Taken eq g.T.Tests c.args.machine c.args.call f) (sym same) c.requires.taken in
    let was = subst (λ (f : Flow g.row.K.Denot g.row.V.Denot g.row.E.Denot). IsOut eq c.args.machine f) (sym same) c.requires.out in
    let s = taken.0 in
    let h = taken.1.rest in
    let n = c.args.call in
    let number : flow.call ≡ n = sym was.on.call ∙ h.number in
    let next = next_in c.in-Ok.turn c.step-stepped.new.flow in
    let m = moves_in eq flow next (Reaches eq g.T.Tests c.args.machine) (Reaches eq g.T.Tests c.step-stepped.new.ground.machine) c.in-Ok.ensures.moves s.world h.reaches taken.3 in
    let moved : CallMoves eq n (call_of flow) s.world next m.0 =
    subst (λ (x : ℕ). CallMoves eq x (call_of flow) s.world next m.0) number m.1 in
    let after = state_after s n m.0 next in
    record {
      state = after;
      stands = c.after_step.ensures.stands s.calls m.0
          (still_without eq g.T.Tests c.args.machine c.step-stepped.new.ground.machine n flow c.step-stepped.new.flow s.calls s.world m.0 was.on c.in-Ok.ensures.on c.in-Ok.ensures.number c.in-Ok.ensures.keeps m.2 h)
          c.in-Ok.ensures.on c.in-Ok.ensures.leaves;
      reached = c.reached_by_step.ensures.reached s after n c.in-Ok.turn taken.2 (c.move_is_step.ensures.step s n (call_of flow) next m.0 taken.1.live moved);
    }

pub returns-in-Err : goal.returns-in-Err
returns-in-Err g c =
    let eq = g.K.PartialEq.eq in
    let flow = c.deref_mut.result.now in
    let same : flow ≡ c.args.flow.value = c.deref_mut.ensures.value in
    let taken = subst (λ (f : Flow g.row.K.Denot g.row.V.Denot g.row.E.Denot). Taken eq g.T.Tests c.args.machine c.args.call f) (sym same) c.requires.taken in
    let was = subst (λ (f : Flow g.row.K.Denot g.row.V.Denot g.row.E.Denot). IsOut eq c.args.machine f) (sym same) c.requires.out in
    let s = taken.0 in
    let h = taken.1.rest in
    let n = c.args.call in
    let still = c.in-Err.ensures.err in
    let new = c.step-stepped.new.ground.machine in
    let out = still_out eq g.T.Tests c.args.machine new flow c.step-stepped.new.flow still c.in-Err.ensures.err_account was in
    let back : MachineIs eq g.T.Tests c.put_in.new.self (record { world = s.world; calls = put_at s.calls n (Some (call_of flow)) }) =
    subst (λ (d : Call g.row.K.Denot g.row.V.Denot g.row.E.Denot). MachineIs eq g.T.Tests c.put_in.new.self (record { world = s.world; calls = put_at s.calls n (Some d) })) still.call
    (c.put_in.ensures s.calls s.world
    (still_without eq g.T.Tests c.args.machine new n flow c.step-stepped.new.flow s.calls s.world s.world was.on out.on still.number c.in-Err.ensures.keeps (c.in-Err.ensures.err_stands s.world h.reaches) h) out) in
    record {
      state = s;
      stands = subst (λ (u : State g.row.K.Denot g.row.V.Denot g.row.E.Denot). MachineIs eq g.T.Tests c.put_in.new.self u)
          (ap (λ f. record s { calls = f }) (put_same s.calls n (Some (call_of flow)) taken.1.live)) back;
      reached = taken.2;
    }
