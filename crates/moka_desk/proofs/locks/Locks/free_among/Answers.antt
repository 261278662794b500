use Rattle.std.proofs.Common.{◌==◌, ℕ, true, Some, None, nat_eq, refl, ap, sym, ◌≡◌, ◌∙◌}
use Rattle.std.specs.HashMap.{get}
use Rattle.std.specs.Option.{option_map}
use Rattle.std.proofs.lemmas.Bool.{eqb-true}
use Rattle.moka_hist.proofs.Owners.{but_none, but_one}
use Rattle.moka_desk.specs.Notices.{either}
use Rattle.moka_desk.specs.Locks.{first_holder, first_lock, key_in, lock_under}
use Rattle.moka_desk.specs.declared.locks.OwnLock.{OwnLock}
use Rattle.moka_desk.proofs.FirstLock.{apart_first, holder_same, is_none_of, out_behind}
use Rattle.moka_desk.proofs.LockParts.{key_at, holds_without, held_without, kept_without, live_without}
use Rattle.moka_desk.proofs.locks.Locks.free_among.Goals as goal

pub returns-in-Some : goal.returns-in-Some
returns-in-Some g c = λ p h.
    let eq = g.K.PartialEq.eq in
    let laws = g.met.K.Eq.laws in
    let s = c.args.self.now in
    let number = c.args.number in
    let key = c.in-Some.own.key in
    let none : first_lock s.first number ≡ None = is_none_of (first_lock s.first number) c.requires in
    let one : key_in p number ≡ Some key =
    key_at eq s p h number ∙ ap (λ o. option_map (λ (l : OwnLock g.row.K.Denot). l.key) (either o (get nat_eq s.locked number))) none ∙ ap (option_map (λ (l : OwnLock g.row.K.Denot). l.key)) (sym c.remove.ensures.value ∙ c.in-Some.is) in
    let alike : (l : g.row.K.Denot) → eq key l ≡ true → p.locks key ≡ p.locks l = λ l same. sym (h.holders key) ∙ holder_same eq laws s key l same ∙ h.holders l in
    let gone = λ (n : ℕ).
    ap (λ o. either (first_lock s.first n) o) (c.remove.ensures.updates.0 n)
    ∙ out_behind (number == n) (first_lock s.first n) (get nat_eq s.locked n) (lock_under s n) refl (λ e. ap (first_lock s.first) (sym (eqb-true number n e)) ∙ none) in
    record {
      holders = λ k.
          ap (λ o. either (first_holder eq s.first k) o) (c.remove-in-Some.ensures.updates.0 k)
          ∙ out_behind (eq key k) (first_holder eq s.first k) (get eq s.holders k) (p.locks k) (h.holders k)
          (λ same. apart_first eq laws s.first k number (get eq s.holders k) (p.locks k) (h.holders k) (sym (alike k same) ∙ h.held key number one) none)
          ∙ but_one eq p.locks (key_in p) number key h.holds h.held one alike k;
      locked = live_without eq s p h (λ n. either (first_lock s.first n) (get nat_eq c.remove.new.self n)) number gone;
      kept = kept_without eq s p h (λ n. either (first_lock s.first n) (get nat_eq c.remove.new.self n)) number gone;
      holds = holds_without eq s p h number;
      held = held_without eq s p h number;
    }

pub returns-in_default : goal.returns-in_default
returns-in_default g c = λ p h.
    let eq = g.K.PartialEq.eq in
    let s = c.args.self.now in
    let number = c.args.number in
    let first : first_lock s.first number ≡ None = is_none_of (first_lock s.first number) c.requires in
    let none : key_in p number ≡ None =
    key_at eq s p h number ∙ ap (λ o. option_map (λ (l : OwnLock g.row.K.Denot). l.key) (either o (get nat_eq s.locked number))) first ∙ ap (option_map (λ (l : OwnLock g.row.K.Denot). l.key)) (sym c.remove.ensures.value ∙ c.in_default.is) in
    let gone = λ (n : ℕ).
    ap (λ o. either (first_lock s.first n) o) (c.remove.ensures.updates.0 n)
    ∙ out_behind (number == n) (first_lock s.first n) (get nat_eq s.locked n) (lock_under s n) refl (λ e. ap (first_lock s.first) (sym (eqb-true number n e)) ∙ first) in
    record {
      holders = λ k. h.holders k ∙ but_none eq p.locks (key_in p) number h.holds none k;
      locked = live_without eq s p h (λ n. either (first_lock s.first n) (get nat_eq c.remove.new.self n)) number gone;
      kept = kept_without eq s p h (λ n. either (first_lock s.first n) (get nat_eq c.remove.new.self n)) number gone;
      holds = holds_without eq s p h number;
      held = held_without eq s p h number;
    }
