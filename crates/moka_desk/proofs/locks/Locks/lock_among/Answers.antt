use Rattle.std.proofs.Common.{nat_eq, ◌==◌, ℕ, false, Option, Some, cond, refl, ap, sym, ◌≡◌, ◌∙◌}
use Rattle.std.specs.HashMap.{get}
use Rattle.std.proofs.lemmas.Bool.{eqb-true}
use Rattle.moka_desk.specs.Notices.{either}
use Rattle.moka_desk.specs.Locks.{first_holder, first_lock, lock_under}
use Rattle.moka_desk.specs.declared.locks.OwnLock.{OwnLock}
use Rattle.moka_desk.proofs.FirstLock.{holder_same, put_behind}
use Rattle.moka_desk.proofs.LockParts.{held_taking, holds_taking, kept_taking, live_taking, none_under_is}
use Rattle.moka_desk.proofs.locks.Locks.lock_among.Goals as goal

pub returns-clause-ok : goal.returns-clause-ok
returns-clause-ok g c = λ p h free none unkept.
    let eq = g.K.PartialEq.eq in
    let laws = g.met.K.Eq.laws in
    let s = c.args.self.now in
    let call = c.args.call in
    let key = c.args.key.now in
    let copy : c.in_ok-held.held ≡ key = c.in_ok-held.ensures in
    let own : c.in_ok-own.own ≡ key = c.in_ok-own.ensures in
    let own_lock : g.row.K.Denot → Option (OwnLock g.row.K.Denot) = λ q. Some (record { key = q; kept = false }) in
    let new = λ (n : ℕ). either (first_lock s.first n) (get nat_eq c.put-2.new.map n) in
    let more = λ (n : ℕ).
    ap (λ o. either (first_lock s.first n) o)
    (c.put-2.ensures.updates.0 n
    ∙ ap (λ q. cond (call == n) (own_lock q) (get nat_eq c.reserve-2.new.map n)) own
    ∙ ap (λ o. cond (call == n) (own_lock key) o) (c.reserve-2.ensures.entries.2 n))
    ∙ put_behind {A = OwnLock g.row.K.Denot} (call == n) (record { key = key; kept = false }) (first_lock s.first n) (get nat_eq s.locked n) (lock_under s n) refl
    (λ e. ap (lock_under s) (sym (eqb-true call n e)) ∙ none_under_is eq s p h call none unkept) in
    record {
      holders = λ k.
          ap (λ o. either (first_holder eq s.first k) o)
          (c.put.ensures.updates.0 k ∙ ap (λ q. cond (eq q k) (Some call) (get eq c.reserve.new.map k)) copy ∙ ap (λ o. cond (eq key k) (Some call) o) (c.reserve.ensures.entries.2 k))
          ∙ put_behind (eq key k) call (first_holder eq s.first k) (get eq s.holders k) (p.locks k) (h.holders k)
          (λ same. sym (h.holders k) ∙ sym (holder_same eq laws s key k same) ∙ h.holders key ∙ free);
      locked = live_taking eq s p h call key none unkept new more;
      kept = kept_taking eq s p h call key none unkept new more;
      holds = holds_taking eq s p h call key none unkept;
      held = held_taking eq s p h call key none unkept (laws.refl key) free (λ l same. sym (h.holders key) ∙ holder_same eq laws s key l same ∙ h.holders l);
    }
