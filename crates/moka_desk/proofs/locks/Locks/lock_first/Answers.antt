use Rattle.std.proofs.Common.{◌==◌, ℕ, false, Option, Some, None, cond, ap, sym, nat_eq, ◌≡◌, ◌∙◌}
use Rattle.std.specs.HashMap.{get}
use Rattle.moka_desk.specs.Notices.{either}
use Rattle.moka_desk.specs.Locks.{first_holder, first_lock, lock_under}
use Rattle.moka_desk.specs.declared.locks.OwnLock.{OwnLock}
use Rattle.moka_desk.proofs.FirstLock.{holder_same, is_none_of, put_first}
use Rattle.moka_desk.proofs.LockParts.{held_taking, holds_taking, kept_taking, live_taking}
use Rattle.moka_desk.proofs.locks.Locks.lock_first.Goals as goal

pub returns-clause-ok : goal.returns-clause-ok
returns-clause-ok g c = λ p h free none unkept.
    let eq = g.K.PartialEq.eq in
    let laws = g.met.K.Eq.laws in
    let s = c.args.self.now in
    let call = c.args.call in
    let key = c.args.key.now in
    let copy : c.in_ok-own.own ≡ key = c.in_ok-own.ensures in
    let nobody : s.first ≡ None = is_none_of s.first c.requires in
    let own_lock : g.row.K.Denot → Option (OwnLock g.row.K.Denot) = λ q. Some (record { key = q; kept = false }) in
    let new = λ (n : ℕ). either (cond (call == n) (own_lock c.in_ok-own.own) None) (get nat_eq s.locked n) in
    let more = λ (n : ℕ).
    ap (λ q. either (cond (call == n) (own_lock q) None) (get nat_eq s.locked n)) copy
    ∙ put_first {A = OwnLock g.row.K.Denot} (call == n) (record { key = key; kept = false }) (get nat_eq s.locked n) (lock_under s n) (sym (ap (λ f. either (first_lock f n) (get nat_eq s.locked n)) nobody)) in
    record {
      holders = λ k.
          ap (λ q. either (cond (eq q k) (Some call) None) (get eq s.holders k)) copy
          ∙ put_first (eq key k) call (get eq s.holders k) (p.locks k) (sym (ap (λ f. either (first_holder eq f k) (get eq s.holders k)) nobody) ∙ h.holders k);
      locked = live_taking eq s p h call key none unkept new more;
      kept = kept_taking eq s p h call key none unkept new more;
      holds = holds_taking eq s p h call key none unkept;
      held = held_taking eq s p h call key none unkept (laws.refl key) free (λ l same. sym (h.holders key) ∙ holder_same eq laws s key l same ∙ h.holders l);
    }
