use Rattle.std.proofs.Common.{ℕ, Option, nat_eq, ap, ◌∙◌}
use Rattle.std.specs.HashMap.{get}
use Rattle.std.specs.Option.{option_map}
use Rattle.moka_desk.specs.Notices.{either}
use Rattle.moka_desk.specs.Locks.{as_kept, first_holder, first_lock, marked}
use Rattle.moka_desk.specs.declared.locks.OwnLock.{OwnLock}
use Rattle.moka_desk.proofs.FirstLock.{marked_holder, marked_under}
use Rattle.moka_desk.proofs.LockParts.{held_keeping, holds_keeping, kept_keeping, live_keeping, put_own}
use Rattle.moka_desk.proofs.locks.Locks.keep.Goals as goal

pub returns : goal.returns
returns g c = λ p h.
    let eq = g.K.PartialEq.eq in
    let s = c.args.self.now in
    let call = c.args.call in
    let new = λ (n : ℕ). either (first_lock c.mark_first.new.first n) (get nat_eq c.mark_kept.new.locked n) in
    let kept = λ (n : ℕ).
    ap (λ (f : Option (ℕ × OwnLock g.row.K.Denot)). either (first_lock f n) (get nat_eq c.mark_kept.new.locked n)) c.mark_first.ensures
    ∙ ap (either (first_lock (option_map (marked call) s.first) n)) (c.mark_kept.ensures n ∙ put_own (get nat_eq s.locked) (option_map as_kept) call n)
    ∙ marked_under call n s.first (get nat_eq s.locked n) in
    record {
      holders = λ k.
          ap (λ (f : Option (ℕ × OwnLock g.row.K.Denot)). either (first_holder eq f k) (get eq s.holders k)) c.mark_first.ensures
          ∙ ap (λ o. either o (get eq s.holders k)) (marked_holder eq s.first call k) ∙ h.holders k;
      locked = live_keeping eq s p h call new kept;
      kept = kept_keeping eq s p h call new kept;
      holds = holds_keeping eq s p h call;
      held = held_keeping eq s p h call;
    }
