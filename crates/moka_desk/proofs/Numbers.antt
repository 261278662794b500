-- The numbers of writes that have a place, are logged, or were applied.
use Rattle.std.proofs.Common.{◌≡◌, ℕ, ◌+◌, ◌≤◌, ◌==◌, nat_lt, Bool, true, false, not, IsTrue, cond, ◌||◌, ◌&&◌, List, [], ◌∷◌, ◌++◌, map, refl, sym, ap, ◌∙◌, arith}
use Rattle.std.proofs.Math.Bool.{and-false, or-false}
use Rattle.std.proofs.lemmas.Bool.{eqb-true}
use Rattle.std.proofs.lemmas.Bool.Decides.{nat_tests}
use Rattle.std.specs.List.{list_any}
use Rattle.moka_hist.specs.Finite.{times}
use Rattle.moka_hist.specs.Visits.{is_upsert, number_of}
use Rattle.moka_hist.specs.declared.writes.Owed.{Owed}
use Rattle.moka_hist.specs.declared.writes.Write.{Write}
use Rattle.moka_desk.proofs.Owing.{one, times_of_both}
use Rattle.moka_desk.proofs.WhoHolds.{flip, same_number}
use Rattle.moka_desk.specs.Records.{is_made}

-- one more is in the list
pub one_more : (n : ℕ) (writes : List Write) (w : Write) → times n (map number_of (writes ++ w ∷ [])) ≡ times n (map number_of writes) + cond (number_of w == n) 1 0
one_more n writes w =
    times_of_both n writes (w ∷ []) ∙ ap (λ k. times n (map number_of writes) + k) (one n (number_of w) ∙ ap (λ b. cond b 1 0) (flip n (number_of w)))

contra : {A : Type 0} (b : Bool) → b ≡ true → b ≡ false → A
contra b t f = cc

abbrev weight : Bool → ℕ
weight b = cond b 1 0

at_most : (b : Bool) → cond b 1 0 ≤ 1
at_most true = omega arith
at_most false = omega arith

-- the log with one more
pub logged_more : (posted : ℕ → Bool) (log : List Write) (w : Write) → ((n : ℕ) → times n (map number_of log) ≡ cond (posted n) 1 0) → posted (number_of w) ≡ false →
    (n : ℕ) → times n (map number_of (log ++ w ∷ [])) ≡ cond (posted n || (number_of w == n)) 1 0
logged_more posted log w are apart n = by (number_of w == n) refl (one_more n log w) where
  by : (b : Bool) → (number_of w == n) ≡ b → times n (map number_of (log ++ w ∷ [])) ≡ times n (map number_of log) + cond b 1 0 →
      times n (map number_of (log ++ w ∷ [])) ≡ cond (posted n || b) 1 0
  by true e f =
      let none : posted n ≡ false = ap posted (sym (eqb-true _ _ e)) ∙ apart in
      let zero : times n (map number_of log) ≡ 0 = are n ∙ ap (λ b. cond b 1 0) none in
      let sum : times n (map number_of (log ++ w ∷ [])) ≡ 1 = omega (arith, f, zero) in
      sum ∙ ap (λ b. cond (b || true) 1 0) (sym none)
  by false e f =
      let same : times n (map number_of (log ++ w ∷ [])) ≡ times n (map number_of log) = omega (arith, f) in
      same ∙ are n ∙ ap (λ b. cond b 1 0) (sym (or-false (posted n)))

-- the log without its front
module _ (posted : ℕ → Bool) (w : Write) (rest : List Write) (are : (n : ℕ) → times n (map number_of (w ∷ rest)) ≡ cond (posted n) 1 0) where
  front : (n : ℕ) (b : Bool) → (number_of w == n) ≡ b → times n (map number_of (w ∷ rest)) ≡ times n (map number_of rest) + cond b 1 0
  front n b e = by (n == number_of w) refl where
    by : (a : Bool) → (n == number_of w) ≡ a → cond a (times n (map number_of rest) + 1) (times n (map number_of rest)) ≡ times n (map number_of rest) + cond b 1 0
    by true f = ap (λ a. times n (map number_of rest) + cond a 1 0) (sym f ∙ flip n (number_of w) ∙ e)
    by false f = plus ∙ ap (λ a. times n (map number_of rest) + cond a 1 0) (sym f ∙ flip n (number_of w) ∙ e) where
      plus : times n (map number_of rest) ≡ times n (map number_of rest) + 0
      plus = omega arith

  pub front_is_posted : posted (number_of w) ≡ true
  front_is_posted = by (posted (number_of w)) refl (are (number_of w)) (front (number_of w) true (same_number (number_of w))) where
    by : (b : Bool) → posted (number_of w) ≡ b → times (number_of w) (map number_of (w ∷ rest)) ≡ cond (posted (number_of w)) 1 0 →
        times (number_of w) (map number_of (w ∷ rest)) ≡ times (number_of w) (map number_of rest) + 1 → b ≡ true
    by true e f g = refl
    by false e f g = let zero : weight (posted (number_of w)) ≡ 0 = ap weight e in absurd (omega (arith, zero, f, g))

  pub logged_less : (n : ℕ) → times n (map number_of rest) ≡ cond (cond (number_of w == n) false (posted n)) 1 0
  logged_less n = by (number_of w == n) refl where
    by : (b : Bool) → (number_of w == n) ≡ b → times n (map number_of rest) ≡ cond (cond b false (posted n)) 1 0
    by true e = let sum = front n true e in let whole = are n in let most = at_most (posted n) in omega (arith, sum, whole, most)
    by false e = let sum = front n false e in let whole = are n in plain sum whole where
      plain : times n (map number_of (w ∷ rest)) ≡ times n (map number_of rest) + 0 → times n (map number_of (w ∷ rest)) ≡ cond (posted n) 1 0 → times n (map number_of rest) ≡ cond (posted n) 1 0
      plain f g = omega (arith, f, g)

-- ---- each number is that of one write

module _ (place posted : ℕ → Bool) (applied : List Write) (once : (n : ℕ) → cond (place n || posted n) 1 0 + times n (map number_of applied) ≤ 1) where
  -- a write gets a place
  pub once_placed : (number : ℕ) → times number (map number_of applied) ≡ 0 → (n : ℕ) →
      cond ((place n || (number == n)) || posted n) 1 0 + times n (map number_of applied) ≤ 1
  once_placed number unused n = by (number == n) refl where
    by : (b : Bool) → (number == n) ≡ b → cond ((place n || b) || posted n) 1 0 + times n (map number_of applied) ≤ 1
    by true e =
        let zero : times n (map number_of applied) ≡ 0 = ap (λ m. times m (map number_of applied)) (sym (eqb-true _ _ e)) ∙ unused in
        let most = at_most ((place n || true) || posted n) in omega (arith, zero, most)
    by false e = rw (or-false (place n)) (once n)

  -- it gives it up
  pub once_given_up : (number n : ℕ) → cond (cond (number == n) false (place n) || posted n) 1 0 + times n (map number_of applied) ≤ 1
  once_given_up number n = by (number == n) (place n) (posted n) (once n) where
    by : (b p q : Bool) → cond (p || q) 1 0 + times n (map number_of applied) ≤ 1 → cond (cond b false p || q) 1 0 + times n (map number_of applied) ≤ 1
    by true true true h = h
    by true true false h = omega (arith, h)
    by true false q h = h
    by false p q h = h

  -- it is logged
  pub once_logged : (number : ℕ) → place number ≡ true → (n : ℕ) →
      cond (cond (number == n) false (place n) || (posted n || (number == n))) 1 0 + times n (map number_of applied) ≤ 1
  once_logged number had n = by (number == n) refl where
    by : (b : Bool) → (number == n) ≡ b → cond (cond b false (place n) || (posted n || b)) 1 0 + times n (map number_of applied) ≤ 1
    by true e =
        let has : place n ≡ true = ap place (sym (eqb-true _ _ e)) ∙ had in
        let before : weight (place n || posted n) ≡ 1 = ap (λ b. weight (b || posted n)) has in
        let h = once n in let most = at_most (posted n || true) in omega (arith, before, h, most)
    by false e = rw (or-false (posted n)) (once n)

  -- it is applied
  pub once_applied : (w : Write) → ((n : ℕ) → place n ≡ true → posted n ≡ false) → posted (number_of w) ≡ true → (n : ℕ) →
      cond (place n || cond (number_of w == n) false (posted n)) 1 0 + times n (map number_of (applied ++ w ∷ [])) ≤ 1
  once_applied w apart was n = by (number_of w == n) refl (one_more n applied w) where
    by : (b : Bool) → (number_of w == n) ≡ b → times n (map number_of (applied ++ w ∷ [])) ≡ times n (map number_of applied) + cond b 1 0 →
        cond (place n || cond b false (posted n)) 1 0 + times n (map number_of (applied ++ w ∷ [])) ≤ 1
    by true e f = here (place n) refl where
      is : posted n ≡ true
      is = ap posted (sym (eqb-true _ _ e)) ∙ was

      here : (p : Bool) → place n ≡ p → cond (p || false) 1 0 + times n (map number_of (applied ++ w ∷ [])) ≤ 1
      here true g = contra (posted n) is (apart n g)
      here false g =
          let before : weight (place n || posted n) ≡ 1 = ap (λ b. weight (b || posted n)) g ∙ ap weight is in
          let h = once n in omega (arith, before, h, f)
    by false e f = let h = once n in omega (arith, h, f)

  -- none of the number of a logged write was applied
  pub none_applied : (number : ℕ) → posted number ≡ true → times number (map number_of applied) ≡ 0
  none_applied number was = by (place number) (posted number) was (once number) where
    by : (p q : Bool) → q ≡ true → cond (p || q) 1 0 + times number (map number_of applied) ≤ 1 → times number (map number_of applied) ≡ 0
    by true true e h = omega (arith, h)
    by false true e h = omega (arith, h)
    by p false e h = absurd (no e) where
      no : false ≡ true → ⊥
      no e = cc

-- the same of places and a log with the same numbers
pub still_once : (p q a b : Bool) (t : ℕ) → p ≡ a → q ≡ b → cond (a || b) 1 0 + t ≤ 1 → cond (p || q) 1 0 + t ≤ 1
still_once p q a b t e f h = rw (e, f) h

-- ---- whether a number was applied

pub among_by_times : (n : ℕ) (writes : List Write) → list_any (λ w. number_of w == n) writes ≡ nat_lt 0 (times n (map number_of writes))
among_by_times n [] = refl
among_by_times n (w ∷ writes) = by (number_of w == n) (n == number_of w) (flip (number_of w) n) (among_by_times n writes) where
  over : (m : ℕ) → nat_lt 0 (m + 1) ≡ true
  over m = grind (arith, nat_tests)

  by : (a b : Bool) → a ≡ b → list_any (λ v. number_of v == n) writes ≡ nat_lt 0 (times n (map number_of writes)) →
      (a || list_any (λ v. number_of v == n) writes) ≡ nat_lt 0 (cond b (times n (map number_of writes) + 1) (times n (map number_of writes)))
  by true true e h = sym (over (times n (map number_of writes)))
  by true false e h = cc
  by false true e h = cc
  by false false e h = h

-- what was not applied made no record
pub unmade : (n : ℕ) (writes : List Write) → times n (map number_of writes) ≡ 0 → is_made writes n ≡ false
unmade n [] none = refl
unmade n (w ∷ writes) none = by (number_of w == n) (n == number_of w) (flip (number_of w) n) none (unmade n writes) where
  by : (a b : Bool) → a ≡ b → cond b (times n (map number_of writes) + 1) (times n (map number_of writes)) ≡ 0 → (times n (map number_of writes) ≡ 0 → is_made writes n ≡ false) →
      ((is_upsert w && a) || is_made writes n) ≡ false
  by true true e h f = absurd (omega (arith, h))
  by true false e h f = cc
  by false true e h f = cc
  by false false e h f = ap (λ b. b || is_made writes n) (and-false (is_upsert w)) ∙ f h

-- a number of which no write is applied isn't among them, and the other way round
pub not_among : (b : Bool) (m : ℕ) → b ≡ nat_lt 0 m → m ≡ 0 → IsTrue (not b)
not_among b m e none = ap not (e ∙ ap (nat_lt 0) none)

pub among_none : (b : Bool) (m : ℕ) → b ≡ nat_lt 0 m → IsTrue (not b) → m ≡ 0
among_none true m e h = absurd (no h) where
  no : false ≡ true → ⊥
  no e = cc
among_none false m e h = grind (arith, nat_tests)

-- what is in two lists together is in either
pub none_of_both : (n : ℕ) (xs ys : List Write) → times n (map number_of (xs ++ ys)) ≡ 0 → (times n (map number_of xs) ≡ 0) × (times n (map number_of ys) ≡ 0)
none_of_both n xs ys none = let sum = times_of_both n xs ys in (omega (arith, sum, none), omega (arith, sum, none))

pub none_in_both : (n : ℕ) (xs ys : List Write) → times n (map number_of xs) ≡ 0 → times n (map number_of ys) ≡ 0 → times n (map number_of (xs ++ ys)) ≡ 0
none_in_both n xs ys a b = let sum = times_of_both n xs ys in omega (arith, sum, a, b)

-- a number that is not logged
pub unposted : (posted : Bool) (m : ℕ) → m ≡ cond posted 1 0 → m ≡ 0 → posted ≡ false
unposted true m e none = absurd (omega (arith, e, none))
unposted false m e none = refl

-- what has no place, and no new one, isn't logged
pub still_apart : (b place posted : Bool) → (place ≡ true → posted ≡ false) → cond b false place ≡ true → (posted || b) ≡ false
still_apart true place posted apart e = absurd (no e) where
  no : false ≡ true → ⊥
  no e = cc
still_apart false place posted apart e = or-false posted ∙ apart e

pub out_too : (b posted : Bool) → posted ≡ false → cond b false posted ≡ false
out_too true posted e = refl
out_too false posted e = e

-- none of an unused number was applied, and none is logged
pub unused_applied : (n : ℕ) (owed : List Owed) (log applied : List Write) → times n (map number_of (map (λ o. o.write) owed ++ log ++ applied)) ≡ 0 →
    times n (map number_of applied) ≡ 0
unused_applied n owed log applied none = (none_of_both n (map (λ o. o.write) owed ++ log) applied none).1

pub unused_logged : (n : ℕ) (owed : List Owed) (log applied : List Write) → times n (map number_of (map (λ o. o.write) owed ++ log ++ applied)) ≡ 0 →
    times n (map number_of log) ≡ 0
unused_logged n owed log applied none = (none_of_both n (map (λ o. o.write) owed) log (none_of_both n (map (λ o. o.write) owed ++ log) applied none).0).1

pub not_made : {made : Bool} (gone : Bool) → made ≡ false → (made && not gone) ≡ false
not_made gone e = ap (λ b. b && not gone) e
