-- The notice is that at which the call stands.
use Rattle.std.proofs.Common.{ℕ, Some, sym, ap, subst, ◌∙◌}
use Rattle.std.proofs.lemmas.Option.{same_Some}
use Rattle.moka_kept.specs.Ends.{MayEnd}
use Rattle.moka_cache.proofs.Ending.{ready_ended}
use Rattle.moka_cache.proofs.Turning.{pending_is}
use Rattle.moka_cache.proofs.hearing.hear_by.Goals as goal

pub returns-in-Some-clause-cause : goal.returns-in-Some-clause-cause
returns-in-Some-clause-cause g c = λ pending.
    (c.in-Some.notice, c.in-Some.is, pending_is _ c.poll_notice.result (same_Some _ _ pending) c.poll_notice.ensures.pending)

pub returns-in-Some-clause-armed : goal.returns-in-Some-clause-armed
returns-in-Some-clause-armed g c = λ pending. pending_is _ c.poll_notice.result (same_Some _ _ pending) c.poll_notice.ensures.armed

pub returns-in-Some-clause-ended : goal.returns-in-Some-clause-ended
returns-in-Some-clause-ended g c =
    ready_ended c.poll_notice.result _ _
    (λ heard is. (c.in-Some.is ∙ ap Some (sym is.0), subst (λ (n : ℕ). MayEnd g.L.Listener.quits c.args.listener.now n heard.end) (sym is.0) is.1))
    c.poll_notice.ensures.ended
