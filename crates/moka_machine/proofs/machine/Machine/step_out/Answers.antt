-- The step is the call's, and the call is put back or has ended.
use Rattle.std.proofs.Common.{◌≡◌, ℕ, Some, sym, subst, ◌∙◌}
use Rattle.moka_hist.specs.Finite.{put_at}
use Rattle.moka_hist.specs.State.{Call, World}
use Rattle.moka_hist.specs.Step.{May, CallMoves}
use Rattle.moka_init.specs.declared.flow.Flow.{Flow}
use Rattle.moka_init.specs.FlowPlan.{call_of, next_in}
use Rattle.moka_init.specs.Grounds.{access_at}
use Rattle.moka_init.proofs.Stepping.{moves_in}
use Rattle.moka_layers.specs.Needing.{StepNeedsMemory}
use Rattle.moka_machine.specs.Machine.{IsOut, KeepsOut, MachineIs, Reaches, StepOut}
use Rattle.moka_machine.proofs.Stepping.{still_without, still_out}
use Rattle.moka_machine.proofs.machine.Machine.step_out.Goals as goal

pub returns-in-Ok-clause-steps : goal.returns-in-Ok-clause-steps
returns-in-Ok-clause-steps g c =
    let eq = g.K.PartialEq.eq in
    let flow = c.deref_mut.result.now in
    let same : flow ≡ c.args.flow.value = c.deref_mut.ensures.value in
    let out = subst (λ (f : Flow g.row.K.Denot g.row.V.Denot g.row.E.Denot). IsOut eq c.args.self.now f) (sym same) c.requires.out in
    subst (λ (f : Flow g.row.K.Denot g.row.V.Denot g.row.E.Denot). StepOut eq g.T.Tests c.args.self.now c.args.call f c.after_step.result c.after_step.new.self) same (λ others w h may.
    let next = next_in c.in-Ok.turn c.step.new.flow in
    let m = moves_in eq flow next (Reaches eq g.T.Tests c.args.self.now) (Reaches eq g.T.Tests c.step.new.ground) c.in-Ok.ensures.moves w h.reaches may in
    let number : flow.call ≡ c.args.call = sym out.on.call ∙ h.number in (
      next,
      m.0,
      subst (λ (n : ℕ). CallMoves eq n (call_of flow) w next m.0) number m.1,
      c.after_step.ensures.reply,
      c.after_step.ensures.stands others m.0
          (still_without eq g.T.Tests c.args.self.now c.step.new.ground c.args.call flow c.step.new.flow others w m.0 out.on c.in-Ok.ensures.on c.in-Ok.ensures.number c.in-Ok.ensures.keeps m.2 h)
          c.in-Ok.ensures.on c.in-Ok.ensures.leaves,
    ))

pub returns-in-Err-clause-err : goal.returns-in-Err-clause-err
returns-in-Err-clause-err g c =
    let eq = g.K.PartialEq.eq in
    let flow = c.deref_mut.result.now in
    let same : flow ≡ c.args.flow.value = c.deref_mut.ensures.value in
    let was = subst (λ (f : Flow g.row.K.Denot g.row.V.Denot g.row.E.Denot). IsOut eq c.args.self.now f) (sym same) c.requires.out in
    let still = c.in-Err.ensures.err in
    let out = still_out eq g.T.Tests c.args.self.now c.step.new.ground flow c.step.new.flow still c.in-Err.ensures.err_account was in
    subst (λ (f : Flow g.row.K.Denot g.row.V.Denot g.row.E.Denot). KeepsOut eq g.T.Tests c.args.self.now c.args.call f c.put_in.new.self) same (λ others w h.
    subst (λ (d : Call g.row.K.Denot g.row.V.Denot g.row.E.Denot). MachineIs eq g.T.Tests c.put_in.new.self (record { world = w; calls = put_at others c.args.call (Some d) })) still.call
    (c.put_in.ensures others w
    (still_without eq g.T.Tests c.args.self.now c.step.new.ground c.args.call flow c.step.new.flow others w w was.on out.on still.number c.in-Err.ensures.keeps
    (c.in-Err.ensures.err_stands w h.reaches) h) out))

pub returns-in-Err-clause-err_needs : goal.returns-in-Err-clause-err_needs
returns-in-Err-clause-err_needs g c =
    subst (λ (f : Flow g.row.K.Denot g.row.V.Denot g.row.E.Denot). (w : World g.row.K.Denot g.row.V.Denot g.row.E.Denot) → Reaches g.K.PartialEq.eq g.T.Tests c.args.self.now w → May w (access_at f) → StepNeedsMemory w (access_at f))
    c.deref_mut.ensures.value c.in-Err.ensures.err_needs
