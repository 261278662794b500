-- Each event by its own function.
use Rattle.std.proofs.Common.{IfErr, IfOk, OnErr, refl, sym, subst}
use Rattle.std.proofs.lemmas.Result.{on_err_weaker, IfErr-weaker}
use Rattle.moka_hist.specs.State.{State}
use Rattle.moka_hist.specs.declared.events.Event.{Event}
use Rattle.moka_machine.specs.Machine.{ServesEvent, Stops, MachineIs}
use Rattle.moka_machine.specs.WantOfMemory.{MayStopServing}
use Rattle.moka_machine.proofs.Happening.{unpolled_ok, unpolled_err, unpolled_on_err}
use Rattle.moka_machine.proofs.machine.Machine.serve.Goals as goal

pub returns-in-Step-clause-serves : goal.returns-in-Step-clause-serves
returns-in-Step-clause-serves g c =
    subst (λ (e : Event g.row.K.Denot g.row.V.Denot g.row.E.Denot). IfOk c.unpolled-in-Step.result (λ r. ServesEvent g.K.PartialEq.eq g.T.Tests c.args.self.now e r c.step.new.self)) (sym c.in-Step.is)
    (unpolled_ok c.step.result c.unpolled-in-Step.result _ c.unpolled-in-Step.ensures c.step.ensures.serves)

pub returns-in-Tell-clause-serves : goal.returns-in-Tell-clause-serves
returns-in-Tell-clause-serves g c =
    subst (λ (e : Event g.row.K.Denot g.row.V.Denot g.row.E.Denot). IfOk c.unpolled-in-Tell.result (λ r. ServesEvent g.K.PartialEq.eq g.T.Tests c.args.self.now e r c.tell_copy.new.self)) (sym c.in-Tell.is)
    (unpolled_ok c.tell_copy.result c.unpolled-in-Tell.result _ c.unpolled-in-Tell.ensures c.tell_copy.ensures.serves)

pub returns-in-Poll-clause-serves : goal.returns-in-Poll-clause-serves
returns-in-Poll-clause-serves g c =
    subst (λ (e : Event g.row.K.Denot g.row.V.Denot g.row.E.Denot). IfOk c.poll.result (λ r. ServesEvent g.K.PartialEq.eq g.T.Tests c.args.self.now e r c.poll.new.self)) (sym c.in-Poll.is) c.poll.ensures.serves

pub returns-in-Poll-clause-stops : goal.returns-in-Poll-clause-stops
returns-in-Poll-clause-stops g c =
    subst (λ (e : Event g.row.K.Denot g.row.V.Denot g.row.E.Denot). IfErr c.poll.result (λ u. Stops g.K.PartialEq.eq g.T.Tests c.args.self.now e u.steps c.poll.new.self)) (sym c.in-Poll.is) c.poll.ensures.stops

pub returns-in-Step-clause-needs : goal.returns-in-Step-clause-needs
returns-in-Step-clause-needs g c =
    subst (λ (e : Event g.row.K.Denot g.row.V.Denot g.row.E.Denot). OnErr c.unpolled-in-Step.result ((s : State g.row.K.Denot g.row.V.Denot g.row.E.Denot) → MachineIs g.K.PartialEq.eq g.T.Tests c.step.new.self s → MayStopServing s e)) (sym c.in-Step.is)
    (unpolled_on_err c.step.result c.unpolled-in-Step.result _ c.unpolled-in-Step.ensures c.step.ensures.err_needs)

pub returns-in-Tell-clause-needs : goal.returns-in-Tell-clause-needs
returns-in-Tell-clause-needs g c =
    subst (λ (e : Event g.row.K.Denot g.row.V.Denot g.row.E.Denot). OnErr c.unpolled-in-Tell.result ((s : State g.row.K.Denot g.row.V.Denot g.row.E.Denot) → MachineIs g.K.PartialEq.eq g.T.Tests c.tell_copy.new.self s → MayStopServing s e)) (sym c.in-Tell.is)
    (unpolled_on_err c.tell_copy.result c.unpolled-in-Tell.result _ c.unpolled-in-Tell.ensures (on_err_weaker c.tell_copy.result (λ needs s stands. needs) c.tell_copy.ensures.err_needs))

pub returns-in-Poll-clause-needs : goal.returns-in-Poll-clause-needs
returns-in-Poll-clause-needs g c =
    subst (λ (e : Event g.row.K.Denot g.row.V.Denot g.row.E.Denot). OnErr c.poll.result ((s : State g.row.K.Denot g.row.V.Denot g.row.E.Denot) → MachineIs g.K.PartialEq.eq g.T.Tests c.poll.new.self s → MayStopServing s e)) (sym c.in-Poll.is) c.poll.ensures.needs

pub returns-in-Start-clause-serves : goal.returns-in-Start-clause-serves
returns-in-Start-clause-serves g c =
    subst (λ (e : Event g.row.K.Denot g.row.V.Denot g.row.E.Denot). IfOk c.unpolled.result (λ r. ServesEvent g.K.PartialEq.eq g.T.Tests c.args.self.now e r c.start.new.self)) (sym c.in-Start.is)
    (unpolled_ok c.start.result c.unpolled.result _ c.unpolled.ensures c.start.ensures.serves)

pub returns-in-Start-clause-stops : goal.returns-in-Start-clause-stops
returns-in-Start-clause-stops g c =
    subst (λ (e : Event g.row.K.Denot g.row.V.Denot g.row.E.Denot). IfErr c.unpolled.result (λ u. Stops g.K.PartialEq.eq g.T.Tests c.args.self.now e u.steps c.start.new.self)) (sym c.in-Start.is)
    (IfErr-weaker c.unpolled.result _ _ (λ u stopped s stands reached. (s, (stopped.0, refl), stopped.1 s stands)) (unpolled_err c.start.result c.unpolled.result _ c.unpolled.ensures c.start.ensures.err))

pub returns-in-Step-clause-stops : goal.returns-in-Step-clause-stops
returns-in-Step-clause-stops g c =
    subst (λ (e : Event g.row.K.Denot g.row.V.Denot g.row.E.Denot). IfErr c.unpolled-in-Step.result (λ u. Stops g.K.PartialEq.eq g.T.Tests c.args.self.now e u.steps c.step.new.self)) (sym c.in-Step.is)
    (IfErr-weaker c.unpolled-in-Step.result _ _ (λ u stopped s stands reached. (s, (stopped.0, refl), stopped.1 s stands)) (unpolled_err c.step.result c.unpolled-in-Step.result _ c.unpolled-in-Step.ensures c.step.ensures.err))

pub returns-in-Tell-clause-stops : goal.returns-in-Tell-clause-stops
returns-in-Tell-clause-stops g c =
    subst (λ (e : Event g.row.K.Denot g.row.V.Denot g.row.E.Denot). IfErr c.unpolled-in-Tell.result (λ u. Stops g.K.PartialEq.eq g.T.Tests c.args.self.now e u.steps c.tell_copy.new.self)) (sym c.in-Tell.is)
    (IfErr-weaker c.unpolled-in-Tell.result _ _ (λ u stopped s stands reached. (s, (stopped.0, refl), stopped.1 s stands)) (unpolled_err c.tell_copy.result c.unpolled-in-Tell.result _ c.unpolled-in-Tell.ensures c.tell_copy.ensures.err))

pub returns-in-Drop-clause-serves : goal.returns-in-Drop-clause-serves
returns-in-Drop-clause-serves g c =
    subst (λ (e : Event g.row.K.Denot g.row.V.Denot g.row.E.Denot). ServesEvent g.K.PartialEq.eq g.T.Tests c.args.self.now e c.drop_call.result c.drop_call.new.self) (sym c.in-Drop.is) c.drop_call.ensures
