-- The call is dropped, or it is between two steps and put back as it was.
use Rattle.std.proofs.Common.{Some, refl, ap, subst, ◌∙◌}
use Rattle.moka_hist.specs.State.{State}
use Rattle.moka_hist.specs.Dropping.{dropped}
use Rattle.moka_hist.specs.Run.{Drops}
use Rattle.moka_hist.specs.declared.records.Mode.{Mode}
use Rattle.moka_hist.specs.declared.replies.Refusal.TheVariants as refusal
use Rattle.moka_hist.specs.declared.replies.Reply.TheVariants as reply
use Rattle.moka_init.specs.declared.flow.Flow.{Flow}
use Rattle.moka_init.specs.FlowPlan.{call_of}
use Rattle.moka_laws.proofs.Outcomes.{put_same}
use Rattle.moka_machine.specs.Machine.{MachineIs}
use Rattle.moka_machine.proofs.machine.Machine.drop_out.Goals as goal

pub returns-in-Mid : goal.returns-in-Mid
returns-in-Mid g c = λ s t places.
    let d = call_of c.args.flow.value in (
      s,
      subst (λ (m : Mode). Drops s c.args.call d m (reply.Refused refusal.NotParked) s) (c.in-Mid.ensures ∙ ap (λ (f : Flow g.row.K.Denot g.row.V.Denot g.row.E.Denot). f.mode) c.deref.ensures) (record { reply = refl; same = refl }),
      subst (λ (u : State g.row.K.Denot g.row.V.Denot g.row.E.Denot). MachineIs g.K.PartialEq.eq g.T.Tests c.put_in.new.self u)
          (ap (λ f. record s { calls = f }) (put_same s.calls c.args.call (Some d) t.live)) (c.put_in.ensures s.calls s.world t.rest c.requires.is),
    )

pub returns-in-Fresh : goal.returns-in-Fresh
returns-in-Fresh g c = λ s t places.
    let d = call_of c.args.flow.value in
    let u = dropped s c.args.call d in
    (u, subst (λ (m : Mode). Drops s c.args.call d m c.leave.result u) (c.in-Fresh.ensures ∙ ap (λ (f : Flow g.row.K.Denot g.row.V.Denot g.row.E.Denot). f.mode) c.deref.ensures) (record { reply = c.leave.ensures.reply; after = refl }), c.leave.ensures.leaves s t places)

pub returns-in-Parked : goal.returns-in-Parked
returns-in-Parked g c = λ s t places.
    let d = call_of c.args.flow.value in
    let u = dropped s c.args.call d in
    (u, subst (λ (m : Mode). Drops s c.args.call d m c.leave-in-Parked.result u) (c.in-Parked.ensures ∙ ap (λ (f : Flow g.row.K.Denot g.row.V.Denot g.row.E.Denot). f.mode) c.deref.ensures) (record { reply = c.leave-in-Parked.ensures.reply; after = refl }), c.leave-in-Parked.ensures.leaves s t places)
