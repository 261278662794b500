-- A pending call awaits its notice, whose poll is pending.
use Rattle.std.proofs.Common.{Option, ℕ, Some, IfSome, ap, subst}
use Rattle.moka_kept.specs.Ends.{MayEnd}
use Rattle.moka_cache.specs.Hearing.{Awaits, Ends, IsHeard, Unheard, heard_by, heard_in}
use Rattle.moka_cache.proofs.Ending.{awaited_polled, ready_so, whichever}
use Rattle.moka_cache.proofs.cache.Shared.after_due.Goals as goal

pub returns-in-Some-clause-cause : goal.returns-in-Some-clause-cause
returns-in-Some-clause-cause g c = λ pending.
    subst (Awaits (Unheard g.L.Listener.pends c.args.self.now.listener)) c.notice.ensures (c.in-Some.ensures.cause (ap Some (c.go_with.ensures.same pending)))

pub returns-in-Some-clause-armed : goal.returns-in-Some-clause-armed
returns-in-Some-clause-armed g c = λ pending. c.in-Some.ensures.armed (ap Some (c.go_with.ensures.same pending))

pub returns-in-Some-clause-heard : goal.returns-in-Some-clause-heard
returns-in-Some-clause-heard g c =
    subst (λ (at : Option ℕ). IfSome (heard_in c.go_with.result) (IsHeard (Ends (MayEnd g.L.Listener.quits) c.args.self.now.listener) at)) c.notice.ensures
    (ready_so (heard_in c.go_with.result) c.in-Some.poll (IsHeard (Ends (MayEnd g.L.Listener.quits) c.args.self.now.listener) c.notice.result) c.go_with.ensures.heard c.in-Some.ensures.ended)

pub returns-in-Some-clause-polled : goal.returns-in-Some-clause-polled
returns-in-Some-clause-polled g c = λ pending.
    awaited_polled (heard_by c.args.flow.now) g.L.Listener.pends c.args.self.now.listener
    (subst (Awaits (Unheard g.L.Listener.pends c.args.self.now.listener)) c.notice.ensures (c.in-Some.ensures.cause (ap Some (c.go_with.ensures.same pending))))

pub start-requires : goal.start-requires
start-requires g c = record {
  hears = whichever c.args.self.now.listener (λ l. g.L.Listener.hears l c.args.due.key c.args.due.value) (λ l. c.requires.hears l c.args.due.key c.args.due.value c.requires.so);
}
