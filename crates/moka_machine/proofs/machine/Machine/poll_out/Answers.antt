-- The steps are the call's, and the call is put back or has ended.
use Rattle.std.proofs.Common.{◌≡◌, ℕ, sym, subst, ◌∙◌}
use Rattle.moka_hist.specs.Step.{MovesOn, Polled, IsSafe, access_of}
use Rattle.moka_init.specs.declared.flow.Flow.{Flow}
use Rattle.moka_init.specs.FlowPlan.{call_of, next_in}
use Rattle.moka_layers.specs.Needing.{StepNeedsMemory}
use Rattle.moka_machine.specs.Machine.{IsOut, PollOut, UnfinishedOut}
use Rattle.moka_machine.proofs.Stepping.{still_without}
use Rattle.moka_machine.proofs.machine.Machine.poll_out.Goals as goal

pub returns-in-Ok-clause-polls : goal.returns-in-Ok-clause-polls
returns-in-Ok-clause-polls g c =
    let eq = g.K.PartialEq.eq in
    let flow = c.deref_mut.result.now in
    let same : flow ≡ c.args.flow.value = c.deref_mut.ensures.value in
    let out = subst (λ (f : Flow g.row.K.Denot g.row.V.Denot g.row.E.Denot). IsOut eq c.args.self.now f) (sym same) c.requires.out in
    subst (λ (f : Flow g.row.K.Denot g.row.V.Denot g.row.E.Denot). PollOut eq g.T.Tests c.args.self.now c.args.call f c.after_step.result c.after_step.new.self) same (λ others w h safe.
    let number : flow.call ≡ c.args.call = sym out.on.call ∙ h.number in
    let m = c.in-Ok.ensures.polls w h.reaches (subst (λ (n : ℕ). IsSafe eq n (call_of flow) w) (sym number) safe) in
    let next = next_in c.in-Ok.turn c.poll.new.flow in (
      next,
      m.0,
      subst (λ (n : ℕ). Polled eq n (call_of flow) w next m.0) number m.1,
      c.after_step.ensures.reply,
      c.after_step.ensures.stands others m.0
          (still_without eq g.T.Tests c.args.self.now c.poll.new.ground c.args.call flow c.poll.new.flow others w m.0 out.on c.in-Ok.ensures.on c.in-Ok.ensures.number c.in-Ok.ensures.keeps m.2 h)
          c.in-Ok.ensures.on c.in-Ok.ensures.leaves,
    ))

pub returns-in-Err-clause-unfinished : goal.returns-in-Err-clause-unfinished
returns-in-Err-clause-unfinished g c =
    let eq = g.K.PartialEq.eq in
    let flow = c.deref_mut.result.now in
    let same : flow ≡ c.args.flow.value = c.deref_mut.ensures.value in
    let out = subst (λ (f : Flow g.row.K.Denot g.row.V.Denot g.row.E.Denot). IsOut eq c.args.self.now f) (sym same) c.requires.out in
    let u = c.in-Err.ensures.unfinished in
    subst (λ (f : Flow g.row.K.Denot g.row.V.Denot g.row.E.Denot). UnfinishedOut eq g.T.Tests c.args.self.now c.args.call f c.in-Err.stopped.steps c.put_in.new.self) same (
      u.0,
      u.1,
      λ others w h safe.
          let number : flow.call ≡ c.args.call = sym out.on.call ∙ h.number in
          let m = u.2 w h.reaches (subst (λ (n : ℕ). IsSafe eq n (call_of flow) w) (sym number) safe) in (
            call_of c.poll.new.flow,
            m.0,
            subst (λ (n : ℕ). MovesOn eq u.0 n (call_of flow) w (call_of c.poll.new.flow) m.0) number m.1,
            c.put_in.ensures others m.0
                (still_without eq g.T.Tests c.args.self.now c.poll.new.ground c.args.call flow c.poll.new.flow others w m.0 out.on c.in-Err.ensures.on c.in-Err.ensures.number c.in-Err.ensures.keeps m.2 h)
                (record { on = c.in-Err.ensures.on; live = c.in-Err.ensures.live }),
            subst (λ (n : ℕ). StepNeedsMemory m.0 (access_of n (call_of c.poll.new.flow))) (c.in-Err.ensures.number ∙ number) m.3,
          ),
    )
