-- A notice at which the call stands was polled, and what is told is its end.
use Rattle.std.proofs.Common.{Option, ℕ, Some, IfSome, ap, sym, ◌∙◌, subst}
use Rattle.std.specs.Option.{option_or}
use Rattle.moka_kept.specs.Ends.{MayEnd}
use Rattle.moka_cache.specs.Hearing.{Awaits, Ends, IsHeard, Unheard, heard_by, heard_in}
use Rattle.moka_cache.proofs.Ending.{awaited_polled, ready_so, unawaited}
use Rattle.moka_cache.proofs.cache.Shared.after_wait.Goals as goal

pub returns-in-Some-clause-heard : goal.returns-in-Some-clause-heard
returns-in-Some-clause-heard g c =
    subst (λ (at : Option ℕ). IfSome (heard_in c.go_with.result) (IsHeard (Ends (MayEnd g.L.Listener.quits) c.args.self.now.listener) at)) c.at_notice.ensures
    (ready_so (heard_in c.go_with.result) c.in-Some.poll (IsHeard (Ends (MayEnd g.L.Listener.quits) c.args.self.now.listener) c.at_notice.result) c.go_with.ensures.heard c.in-Some.ensures.ended)

pub returns-in-Some-clause-polled : goal.returns-in-Some-clause-polled
returns-in-Some-clause-polled g c = λ pending.
    awaited_polled (option_or c.args.kept (heard_by c.args.flow.now)) g.L.Listener.pends c.args.self.now.listener
    (subst (Awaits (Unheard g.L.Listener.pends c.args.self.now.listener)) c.at_notice.ensures (c.in-Some.ensures.cause (ap Some (c.go_with.ensures.same pending))))

pub returns-in-None-clause-polled : goal.returns-in-None-clause-polled
returns-in-None-clause-polled g c = λ pending.
    unawaited (option_or c.args.kept (heard_by c.args.flow.now)) g.L.Listener.pends c.args.self.now.listener (λ there. sym c.at_notice.ensures ∙ c.in-None.ensures.none there)
