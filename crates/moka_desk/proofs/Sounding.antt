-- What a desk stands for is sound, as far as writes go.
use Rattle.std.proofs.Common.{◌≡◌, ℕ, ◌+◌, ◌≤◌, Bool, true, false, cond, ◌||◌, ◌++◌, map, nat_eq, Option, Some, None, is_some, refl, sym, ap, ◌∙◌, subst, arith}
use Rattle.std.proofs.lemmas.Bool.{eqb-true}
use Rattle.std.specs.HashMap.{get}
use Rattle.std.specs.HashSet.{contains}
use Rattle.moka_hist.specs.Conditions.{held_number}
use Rattle.moka_hist.specs.Finite.{times}
use Rattle.moka_hist.specs.Visits.{number_of}
use Rattle.moka_hist.specs.declared.writes.Holding.{Holding}
use Rattle.moka_desk.specs.Held.{holds_number, is_holder, owed_at, owed_numbers}
use Rattle.moka_desk.specs.Writes.{WritePart, WritesAre}
use Rattle.moka_desk.specs.declared.writes.Writes.{Writes}
use Rattle.moka_desk.proofs.Owing.{times_of_both}
use Rattle.moka_desk.proofs.WhoHolds.{differ, held_not_owed, holder_is, same_number}

owed_weight : (place : Option (Option ℕ)) → owed_at place ≤ cond (is_some place) 1 0
owed_weight None = omega arith
owed_weight (Some None) = omega arith
owed_weight (Some (Some holder)) = omega arith

-- who holds a write is one call
same_holder : (place : Option (Option ℕ)) (a b : ℕ) → is_holder place a ≡ true → is_holder place b ≡ true → a ≡ b
same_holder None a b e f = differ (sym e)
same_holder (Some None) a b e f = differ (sym e)
same_holder (Some (Some holder)) a b e f = sym (eqb-true holder a e) ∙ eqb-true holder b f

-- a number that has a place, or is logged, or was applied
at_most_one : (place posted : Bool) (owed logged applied all : ℕ) → (place ≡ true → posted ≡ false) → owed ≤ cond place 1 0 → logged ≡ cond posted 1 0 →
    cond (place || posted) 1 0 + applied ≤ 1 → all ≡ owed + logged + applied → all ≤ 1
at_most_one true true owed logged applied all apart o l once sum = let no : true ≡ false = apart refl in cc
at_most_one true false owed logged applied all apart o l once sum = omega (arith, o, l, once, sum)
at_most_one false true owed logged applied all apart o l once sum = omega (arith, o, l, once, sum)
at_most_one false false owed logged applied all apart o l once sum = omega (arith, o, l, once, sum)

nowhere : (place posted : Bool) (owed logged applied all : ℕ) → place ≡ true → posted ≡ false → owed ≡ 0 → logged ≡ cond posted 1 0 →
    cond (place || posted) 1 0 + applied ≤ 1 → all ≡ owed + logged + applied → all ≡ 0
nowhere true false owed logged applied all is apart o l once sum = omega (arith, o, l, once, sum)
nowhere true true owed logged applied all is apart o l once sum = cc
nowhere false posted owed logged applied all is apart o l once sum = cc

module _ (s : Writes) (p : WritePart) (h : WritesAre s p) where
  place : ℕ → Option (Option ℕ)
  place = get nat_eq s.held.holders

  sum : (x : ℕ) → times x (map number_of (map (λ o. o.write) s.owed.items ++ s.log.items ++ p.applied)) ≡ times x (owed_numbers s.owed.items) + times x (map number_of s.log.items) + times x (map number_of p.applied)
  sum x =
      let all = times_of_both x (map (λ o. o.write) s.owed.items ++ s.log.items) p.applied in
      let front = times_of_both x (map (λ o. o.write) s.owed.items) s.log.items in
      omega (arith, all, front)

  pub sound_once : (x : ℕ) → times x (map number_of (map (λ o. o.write) p.owed ++ p.log ++ p.applied)) ≤ 1
  sound_once x =
      let owed : times x (owed_numbers s.owed.items) ≤ cond (is_some (get nat_eq s.held.holders x)) 1 0 =
      subst (λ (m : ℕ). m ≤ cond (is_some (get nat_eq s.held.holders x)) 1 0) (sym (s.nobody_holds_owed x)) (owed_weight (get nat_eq s.held.holders x)) in
      rw (← h.owed, ← h.log)
      (at_most_one (is_some (get nat_eq s.held.holders x)) (contains nat_eq s.posted x) _ _ _ _ (s.posted_by_none x) owed (s.posted_are x) (h.once x) (sum x))

  holds : (n : ℕ) (held : Holding) → p.holding n ≡ Some held → is_holder (get nat_eq s.held.holders (held_number n held)) n ≡ true
  holds n held is = s.held.agree (held_number n held) n ∙ ap (holds_number n (held_number n held)) (h.holding n ∙ is) ∙ same_number (held_number n held)

  pub sound_apart : (n : ℕ) (held : Holding) → p.holding n ≡ Some held → times (held_number n held) (map number_of (map (λ o. o.write) p.owed ++ p.log ++ p.applied)) ≡ 0
  sound_apart n held is =
      let x : ℕ = held_number n held in
      let holder = holds n held is in
      let placed = holder_is (get nat_eq s.held.holders x) n holder in
      rw (← h.owed, ← h.log)
      (nowhere (is_some (get nat_eq s.held.holders x)) (contains nat_eq s.posted x) _ _ _ _ placed (s.posted_by_none x placed)
      (s.nobody_holds_owed x ∙ held_not_owed (get nat_eq s.held.holders x) n holder) (s.posted_are x) (h.once x) (sum x))

  pub sound_holder : (n m : ℕ) (g held : Holding) → p.holding n ≡ Some g → p.holding m ≡ Some held → held_number n g ≡ held_number m held → n ≡ m
  sound_holder n m g held is there same =
      same_holder (get nat_eq s.held.holders (held_number n g)) n m (holds n g is)
      (subst (λ (x : ℕ). is_holder (get nat_eq s.held.holders x) m ≡ true) (sym same) (holds m held there))
