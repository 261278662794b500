-- The listener is the one that there is.
use Rattle.std.proofs.Common.{IsSomeAnd, sym, subst}
use Rattle.moka_kept.specs.Ends.{MayEnd}
use Rattle.moka_cache.specs.Hearing.{Ends, IsHeard}
use Rattle.moka_cache.proofs.Ending.{ended_so, heard_so, none_so}
use Rattle.moka_cache.proofs.cache.Shared.hear.Goals as goal

pub returns-in-Some-clause-cause : goal.returns-in-Some-clause-cause
returns-in-Some-clause-cause g c = λ pending.
    let awaits = c.hear_by.ensures.cause pending in
    (awaits.0, awaits.1, subst (λ o. IsSomeAnd o (λ l. g.L.Listener.pends l awaits.0)) (sym c.in-Some.is) awaits.2)

pub returns-in-Some-clause-ended : goal.returns-in-Some-clause-ended
returns-in-Some-clause-ended g c =
    ended_so c.hear_by.result (IsHeard (MayEnd g.L.Listener.quits c.in-Some.listener) c.args.at) (IsHeard (Ends (MayEnd g.L.Listener.quits) c.args.self.now.listener) c.args.at)
    (heard_so c.args.at (MayEnd g.L.Listener.quits) c.args.self.now.listener c.in-Some.listener c.in-Some.is) c.hear_by.ensures.ended

pub returns-in-Some-clause-none : goal.returns-in-Some-clause-none
returns-in-Some-clause-none g c = none_so c.hear_by.result _ _ (λ none there. none) c.hear_by.ensures.none
