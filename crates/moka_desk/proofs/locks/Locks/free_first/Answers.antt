use Rattle.std.proofs.Common.{◌≡◌, ◌==◌, ℕ, true, Option, Some, None, cond, is_some, nat_eq, ap, sym, subst, ◌∙◌}
use Rattle.std.specs.HashMap.{get}
use Rattle.std.specs.Option.{option_map}
use Rattle.moka_desk.specs.Notices.{either}
use Rattle.moka_desk.specs.Locks.{first_holder, first_lock, key_in}
use Rattle.moka_desk.specs.declared.locks.OwnLock.{OwnLock}
use Rattle.moka_desk.proofs.FirstLock.{first_freed, first_is}
use Rattle.moka_desk.proofs.LockParts.{key_at, holds_without, held_without, kept_without, live_without}
use Rattle.moka_desk.proofs.locks.Locks.free_first.Goals as goal

pub returns-in-Some : goal.returns-in-Some
returns-in-Some g c = λ p h.
    let eq = g.K.PartialEq.eq in
    let laws = g.met.K.Eq.laws in
    let s = c.args.self.now in
    let number = c.args.number in
    let lock = c.in-Some.lock in
    let is : s.first ≡ Some lock = sym c.take.ensures.value ∙ c.in-Some.is in
    let its = first_is lock number (subst (λ (f : Option (ℕ × OwnLock g.row.K.Denot)). is_some (first_lock f number) ≡ true) is c.requires) in
    let one : key_in p number ≡ Some lock.1.key =
    key_at eq s p h number ∙ ap (λ (f : Option (ℕ × OwnLock g.row.K.Denot)). option_map (λ (l : OwnLock g.row.K.Denot). l.key) (either (first_lock f number) (get nat_eq s.locked number))) is
    ∙ ap (λ b. option_map (λ (l : OwnLock g.row.K.Denot). l.key) (either (cond b (Some lock.1) None) (get nat_eq s.locked number))) its in
    let freed = first_freed eq laws lock number (get eq s.holders) (get nat_eq s.locked) p
    (λ k. sym (ap (λ f. either (first_holder eq f k) (get eq s.holders k)) is) ∙ h.holders k) one h.holds h.held its in
    let gone = λ (n : ℕ).
    ap (λ (f : Option (ℕ × OwnLock g.row.K.Denot)). either (first_lock f n) (get nat_eq c.take_at.new.map n)) c.take.ensures.after ∙ c.take_at.ensures.updates n ∙ freed.1 n
    ∙ ap (λ (f : Option (ℕ × OwnLock g.row.K.Denot)). cond (number == n) None (either (first_lock f n) (get nat_eq s.locked n))) (sym is) in
    record {
      holders = λ k. ap (λ f. either (first_holder eq f k) (get eq c.take_key.new.holders k)) c.take.ensures.after ∙ c.take_key.ensures k ∙ freed.0 k;
      locked = live_without eq s p h (λ n. either (first_lock c.take.new.self n) (get nat_eq c.take_at.new.map n)) number gone;
      kept = kept_without eq s p h (λ n. either (first_lock c.take.new.self n) (get nat_eq c.take_at.new.map n)) number gone;
      holds = holds_without eq s p h number;
      held = held_without eq s p h number;
    }
