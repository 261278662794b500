-- How often numbers stand among what is owed, logged and applied.
use Rattle.std.proofs.Common.{◌≡◌, ◌≢◌, ℕ, ◌+◌, ◌≤◌, ◌==◌, Bool, true, false, cond, List, [], ◌∷◌, ◌++◌, map, Option, Some, None, is_some, refl, sym, ap, ◌∙◌, arith}
use Rattle.std.proofs.lemmas.List.{map-append}
use Rattle.std.proofs.lemmas.Bool.{eqb-true, eqb-false}
use Rattle.moka_hist.specs.Finite.{times}
use Rattle.moka_hist.specs.Visits.{number_of}
use Rattle.moka_hist.specs.Conditions.{held_number}
use Rattle.moka_hist.specs.declared.writes.Holding.{Holding}
use Rattle.moka_hist.specs.declared.writes.Owed.{Owed}
use Rattle.moka_hist.specs.declared.writes.Write.{Write}
use Rattle.moka_sync.proofs.Stands.{times-append}
use Rattle.moka_desk.specs.Held.{holds_number, is_holder, owed_at, owed_numbers}

-- how often a number stands in two lists together
pub times_of_both : (n : ℕ) (xs ys : List Write) → times n (map number_of (xs ++ ys)) ≡ times n (map number_of xs) + times n (map number_of ys)
times_of_both n xs ys = ap (times n) (map-append number_of xs ys) ∙ times-append n (map number_of xs) (map number_of ys)

-- one more is owed
pub numbers_more : (owed : List Owed) (o : Owed) → owed_numbers (owed ++ o ∷ []) ≡ owed_numbers owed ++ number_of o.write ∷ []
numbers_more owed o = ap (map number_of) (map-append (λ x. x.write) owed (o ∷ [])) ∙ map-append number_of (map (λ x. x.write) owed) (o.write ∷ [])

pub one : (n x : ℕ) → times n (x ∷ []) ≡ cond (n == x) 1 0
one n x = by (n == x) where
  by : (b : Bool) → cond b (0 + 1) 0 ≡ cond b 1 0
  by true = refl
  by false = refl

pub owed_then : (n : ℕ) (owed : List Owed) (o : Owed) → times n (owed_numbers (owed ++ o ∷ [])) ≡ times n (owed_numbers owed) + cond (n == number_of o.write) 1 0
owed_then n owed o =
    ap (times n) (numbers_more owed o) ∙ times-append n (owed_numbers owed) (number_of o.write ∷ []) ∙ ap (λ k. times n (owed_numbers owed) + k) (one n (number_of o.write))

-- the oldest is owed no more
pub owed_before : (n : ℕ) (o : Owed) (rest : List Owed) → times n (owed_numbers (o ∷ rest)) ≡ times n (owed_numbers rest) + cond (n == number_of o.write) 1 0
owed_before n o rest = by (n == number_of o.write) where
  by : (b : Bool) → cond b (times n (owed_numbers rest) + 1) (times n (owed_numbers rest)) ≡ times n (owed_numbers rest) + cond b 1 0
  by true = refl
  by false = omega arith

at_most_one : (place : Option (Option ℕ)) → owed_at place ≤ 1
at_most_one None = omega arith
at_most_one (Some p) = by (is_some p) where
  by : (b : Bool) → cond b 0 1 ≤ 1
  by true = omega arith
  by false = omega arith

-- what is owed is so once
pub owed_once : (o : Owed) (rest : List Owed) (place : Option (Option ℕ)) → times (number_of o.write) (owed_numbers (o ∷ rest)) ≡ owed_at place → owed_at place ≡ 1
owed_once o rest place e = by (number_of o.write == number_of o.write) refl (owed_before (number_of o.write) o rest) where
  by : (b : Bool) → (number_of o.write == number_of o.write) ≡ b →
      times (number_of o.write) (owed_numbers (o ∷ rest)) ≡ times (number_of o.write) (owed_numbers rest) + cond b 1 0 → owed_at place ≡ 1
  by true h f = let most = at_most_one place in omega (arith, e, f)
  by false h f = absurd (eqb-false _ _ h refl)

-- ---- which numbers are unused

module _ (holders : ℕ → Option (Option ℕ)) (held : ℕ → Option Holding) (agree : (number n : ℕ) → is_holder (holders number) n ≡ holds_number n number (held n))
    (owed : List Owed) (log applied : List Write) (counted : (n : ℕ) → times n (owed_numbers owed) ≡ owed_at (holders n)) (number : ℕ) where
  whole : times number (map number_of (map (λ o. o.write) owed ++ log ++ applied)) ≡ times number (owed_numbers owed) + times number (map number_of (log ++ applied))
  whole =
      let all = times_of_both number (map (λ o. o.write) owed ++ log) applied in
      let front = times_of_both number (map (λ o. o.write) owed) log in
      let back = times_of_both number log applied in
      omega (arith, all, front, back)

  -- of no place nothing is owed or held
  pub stands_nowhere : holders number ≡ None → times number (map number_of (log ++ applied)) ≡ 0 → times number (map number_of (map (λ o. o.write) owed ++ log ++ applied)) ≡ 0
  stands_nowhere none posted = let w = whole in let c = counted number ∙ ap owed_at none in omega (arith, w, c, posted)

  pub held_by_none : holders number ≡ None → (n : ℕ) (h : Holding) → held n ≡ Some h → held_number n h ≢ number
  held_by_none none n h is e = by (held_number n h == number) refl where
    no : true ≡ false → ⊥
    no e = cc

    same : (held_number n h == number) ≡ false
    same = sym (ap (holds_number n number) is) ∙ sym (agree number n) ∙ ap (λ p. is_holder p n) none

    by : (b : Bool) → (held_number n h == number) ≡ b → ⊥
    by true f = no (sym f ∙ same)
    by false f = eqb-false _ _ f e

  -- what nobody holds and is not owed has no place
  pub has_no_place : times number (map number_of (map (λ o. o.write) owed ++ log ++ applied)) ≡ 0 → ((n : ℕ) (h : Holding) → held n ≡ Some h → held_number n h ≢ number) →
      is_some (holders number) ≡ false
  has_no_place none alone = by (holders number) refl where
    by : (o : Option (Option ℕ)) → holders number ≡ o → is_some o ≡ false
    by None e = refl
    by (Some None) e = let w = whole in let c = counted number ∙ ap owed_at e in absurd (omega (arith, w, c, none))
    by (Some (Some n)) e = absurd (holder n (held n) refl (sym (agree number n) ∙ ap (λ p. is_holder p n) e ∙ itself (n == n) refl)) where
      itself : (b : Bool) → (n == n) ≡ b → b ≡ true
      itself true f = refl
      itself false f = absurd (eqb-false n n f refl)

      holder : (n : ℕ) (o : Option Holding) → held n ≡ o → holds_number n number o ≡ true → ⊥
      holder n None is f = no f where
        no : false ≡ true → ⊥
        no e = cc
      holder n (Some h) is f = alone n h is (eqb-true _ _ f)

  pub not_posted : times number (map number_of (map (λ o. o.write) owed ++ log ++ applied)) ≡ 0 → times number (map number_of (log ++ applied)) ≡ 0
  not_posted none = let w = whole in omega (arith, w, none)
