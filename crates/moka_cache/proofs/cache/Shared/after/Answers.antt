-- A hold that left the call waiting left its task registered.
use Rattle.std.proofs.Common.{◌≡◌, ap, inl, inr, Some, IfSome, sym, ◌∙◌, subst}
use Rattle.moka_kept.specs.Meets.{pair_told}
use Rattle.futures.specs.Task.{Lasting}
use Rattle.futures.specs.declared.task.Poll.TheVariants.{Pending}
use Rattle.moka_kept.specs.Ends.{MayEnd}
use Rattle.moka_kept.specs.Stops.{IsWaiting}
use Rattle.moka_kept.specs.declared.stop.Stop.{Stop}
use Rattle.moka_cache.specs.Hearing.{Awaits, Ends, IsHeard, Unheard, WasPolled, heard_in, over_in, standing_at}
use Rattle.moka_cache.proofs.Staying.{asked_still}
use Rattle.moka_cache.proofs.cache.Shared.after.Goals as goal

pub returns-in-Due-clause-cause : goal.returns-in-Due-clause-cause
returns-in-Due-clause-cause g c = λ pending.
    inr (subst (λ (s : Stop g.row.K.Denot g.row.V.Denot g.row.E.Denot). Awaits (Unheard g.L.Listener.pends c.args.self.now.listener) (standing_at s c.args.flow.now)) (sym c.in-Due.is)
    (c.after_due.ensures.cause pending))

pub returns-in-Due-clause-heard : goal.returns-in-Due-clause-heard
returns-in-Due-clause-heard g c =
    subst (λ (s : Stop g.row.K.Denot g.row.V.Denot g.row.E.Denot). IfSome (heard_in c.after_due.result) (IsHeard (Ends (MayEnd g.L.Listener.quits) c.args.self.now.listener) (standing_at s c.args.flow.now)))
    (sym c.in-Due.is) c.after_due.ensures.heard

pub returns-in-Due-clause-polled : goal.returns-in-Due-clause-polled
returns-in-Due-clause-polled g c =
    subst (λ (s : Stop g.row.K.Denot g.row.V.Denot g.row.E.Denot). over_in c.after_due.result ≡ Some Pending → WasPolled g.L.Listener.pends c.args.self.now.listener (standing_at s c.args.flow.now))
    (sym c.in-Due.is) c.after_due.ensures.polled

pub returns-in-Waits-clause-heard : goal.returns-in-Waits-clause-heard
returns-in-Waits-clause-heard g c =
    subst (λ (s : Stop g.row.K.Denot g.row.V.Denot g.row.E.Denot). IfSome (heard_in c.after_wait.result) (IsHeard (Ends (MayEnd g.L.Listener.quits) c.args.self.now.listener) (standing_at s c.args.flow.now)))
    (sym c.in-Waits.is) c.after_wait.ensures.heard

pub returns-in-Waits-clause-polled : goal.returns-in-Waits-clause-polled
returns-in-Waits-clause-polled g c =
    subst (λ (s : Stop g.row.K.Denot g.row.V.Denot g.row.E.Denot). over_in c.after_wait.result ≡ Some Pending → WasPolled g.L.Listener.pends c.args.self.now.listener (standing_at s c.args.flow.now))
    (sym c.in-Waits.is) c.after_wait.ensures.polled

pub returns-in-Waits-clause-cause : goal.returns-in-Waits-clause-cause
returns-in-Waits-clause-cause g c = λ pending. inl (subst IsWaiting (sym c.in-Waits.is) tt)

pub returns-in-Waits-clause-armed : goal.returns-in-Waits-clause-armed
returns-in-Waits-clause-armed g c = λ pending. c.after_wait.ensures.kept Lasting.armed (c.requires.waits (subst IsWaiting (sym c.in-Waits.is) tt))

pub returns-in-Going-clause-asked : goal.returns-in-Going-clause-asked
returns-in-Going-clause-asked g c = asked_still g.Q.Asked.can_poll g.Q.Asked.gives g.Q.Asked.tests c.args.asked.now c.requires.asks

pub returns-in-Waits-clause-asked : goal.returns-in-Waits-clause-asked
returns-in-Waits-clause-asked g c = asked_still g.Q.Asked.can_poll g.Q.Asked.gives g.Q.Asked.tests c.args.asked.now c.requires.asks

pub returns-in-Answers-clause-asked : goal.returns-in-Answers-clause-asked
returns-in-Answers-clause-asked g c = asked_still g.Q.Asked.can_poll g.Q.Asked.gives g.Q.Asked.tests c.args.asked.now c.requires.asks

pub returns-in-Memory-clause-asked : goal.returns-in-Memory-clause-asked
returns-in-Memory-clause-asked g c = asked_still g.Q.Asked.can_poll g.Q.Asked.gives g.Q.Asked.tests c.args.asked.now c.requires.asks

pub returns-in-Due-clause-asked : goal.returns-in-Due-clause-asked
returns-in-Due-clause-asked g c = asked_still g.Q.Asked.can_poll g.Q.Asked.gives g.Q.Asked.tests c.args.asked.now c.requires.asks

pub after_due-requires-clause-so : goal.after_due-requires-clause-so
after_due-requires-clause-so g c = c.requires.so (c.in-Due.due.key, c.in-Due.due.value) (ap pair_told c.in-Due.is)

pub begin_asked-requires-clause-so : goal.begin_asked-requires-clause-so
begin_asked-requires-clause-so g c = λ pair is. c.requires.so pair (ap pair_told c.in-Asks.is ∙ is)
