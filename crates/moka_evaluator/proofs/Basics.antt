-- Options, maps over numbers with one place changed, and queries in lines.
use Rattle.std.proofs.Common.{◌≡◌, ◌≢◌, ◌⊎◌, inl, inr, ℕ, ◌==◌, not, Bool, true, false, cond, ◌||◌, List, [], ◌∷◌, ◌++◌, drop, Option, Some, None, slice_get, refl, sym, ap, ◌∙◌}
use Rattle.std.proofs.lemmas.Bool.{eqb-true, eq-eqb, false≢true}
use Rattle.std.specs.Option.{option_map_or}
use Rattle.moka_hist.specs.Finite.{put_at}
use Rattle.moka_evaluator.specs.Evaluator.{is_in, without}
use Rattle.moka_evaluator.specs.Sound.{IsOnce}
use Rattle.moka_evaluator.specs.Steps.{joined}

pub none_some : {A : Type 0} {x : A} → None ≡ Some x → ⊥
none_some e = cc

pub some_same : {A : Type 0} {x y : A} → Some x ≡ Some y → x ≡ y
some_same e = cc

pub same_number : (n : ℕ) → (n == n) ≡ true
same_number n = eq-eqb n n refl

pub differ : (n m : ℕ) → n ≢ m → (n == m) ≡ false
differ n m h = by (n == m) refl
  where
    by : (b : Bool) → (n == m) ≡ b → b ≡ false
    by true e = absurd (h (eqb-true n m e))
    by false e = refl

pub differ_not : (n m : ℕ) → (n == m) ≡ false → n ≢ m
differ_not n m h e = false≢true (sym h ∙ eq-eqb n m e)

-- what a map has once something was put at a number: that there, and elsewhere what it had
pub put_cases : {A : Type 0} (f : ℕ → A) (n : ℕ) (v : A) (m : ℕ) (a : A) (P : Type 0) → put_at f n v m ≡ a → (n ≡ m → v ≡ a → P) →
    (n ≢ m → f m ≡ a → P) → P
put_cases f n v m a P e here there = by (n == m) refl e
  where
    by : (b : Bool) → (n == m) ≡ b → cond b v (f m) ≡ a → P
    by true h e = here (eqb-true n m h) e
    by false h e = there (differ_not n m h) e

pub put_here : {A : Type 0} (f : ℕ → A) (n : ℕ) (v : A) → put_at f n v n ≡ v
put_here f n v = ap (λ b. cond b v (f n)) (same_number n)

pub put_there : {A : Type 0} (f : ℕ → A) (n : ℕ) (v : A) (m : ℕ) → n ≢ m → put_at f n v m ≡ f m
put_there f n v m h = ap (λ b. cond b v (f m)) (differ n m h)

-- what holds there and elsewhere holds of the map with something put at a number
pub put_holds : {A : Type 0} (f : ℕ → A) (n : ℕ) (v : A) (m : ℕ) (P : A → Type 0) → (n ≡ m → P v) → (n ≢ m → P (f m)) →
    P (put_at f n v m)
put_holds f n v m P here there = by (n == m) refl
  where
    by : (b : Bool) → (n == m) ≡ b → P (cond b v (f m))
    by true h = here (eqb-true n m h)
    by false h = there (differ_not n m h)

-- a map that has something keeps it where that is put
pub put_keeps : {A : Type 0} (f : ℕ → A) (n : ℕ) (v : A) (m : ℕ) → f m ≡ v → put_at f n v m ≡ v
put_keeps f n v m e = put_holds f n v m (λ x. x ≡ v) (λ same. refl) (λ other. e)

-- a map is itself with what it has at a number put there
pub put_same : {A : Type 0} (f : ℕ → A) (n : ℕ) (v : A) → f n ≡ v → put_at f n v ≡ f
put_same f n v e = λ i m. (at m) i
  where
    at : (m : ℕ) → put_at f n v m ≡ f m
    at m = put_holds f n v m (λ x. x ≡ f m) (λ same. sym e ∙ ap f same) (λ other. refl)

-- the owner is this one, or isn't
pub is_this : (owner : Option ℕ) (q : ℕ) → option_map_or (λ o. o == q) owner false ≡ true → owner ≡ Some q
is_this None q e = absurd (false≢true e)
is_this (Some o) q e = ap Some (eqb-true o q e)

pub this_is : (owner : Option ℕ) (q : ℕ) → owner ≡ Some q → option_map_or (λ o. o == q) owner false ≡ true
this_is owner q e = ap (λ x. option_map_or (λ o. o == q) x false) e ∙ same_number q

-- ---- lines

pub or_false : (a b : Bool) → (a || b) ≡ true → a ≡ false → b ≡ true
or_false true b e none = absurd (false≢true (sym none))
or_false false b e none = e

pub or_left : (a b : Bool) → a ≡ true → (a || b) ≡ true
or_left a b e = ap (λ x. x || b) e

pub or_right : (a b : Bool) → b ≡ true → (a || b) ≡ true
or_right true b e = refl
or_right false b e = e

-- a query in a longer line is the first, or in the rest
pub in_cases : (p q : ℕ) (qs : List ℕ) (P : Type 0) → is_in p (q ∷ qs) ≡ true → (q ≡ p → P) → (is_in p qs ≡ true → P) → P
in_cases p q qs P e here there = by (q == p) refl e
  where
    by : (b : Bool) → (q == p) ≡ b → (b || is_in p qs) ≡ true → P
    by true h e = here (eqb-true q p h)
    by false h e = there e

-- who came to the end is in the line, and the others are as before
pub in_more : (p q : ℕ) (qs : List ℕ) → is_in p (qs ++ q ∷ []) ≡ true → (is_in p qs ≡ true) ⊎ (q ≡ p)
in_more p q [] e = in_cases p q [] _ e (λ same. inr same) (λ no. absurd (false≢true no))
in_more p q (x ∷ xs) e = in_cases p x (xs ++ q ∷ []) _ e
    (λ same. inl (or_left (x == p) (is_in p xs) (eq-eqb x p same)))
    (λ more. by (in_more p q xs more))
  where
    by : (is_in p xs ≡ true) ⊎ (q ≡ p) → ((x == p || is_in p xs) ≡ true) ⊎ (q ≡ p)
    by (inl e) = inl (or_right (x == p) (is_in p xs) e)
    by (inr e) = inr e

pub in_joined : (p q : ℕ) (line : List ℕ) → is_in p (joined line q) ≡ true → (is_in p line ≡ true) ⊎ (q ≡ p)
in_joined p q line e = by (is_in q line) e
  where
    by : (b : Bool) → is_in p (cond b line (line ++ q ∷ [])) ≡ true → (is_in p line ≡ true) ⊎ (q ≡ p)
    by true e = inl e
    by false e = in_more p q line e

-- a query is in a line without another one as before
pub in_without : (p q : ℕ) (line : List ℕ) → is_in p (without q line) ≡ true → (is_in p line ≡ true) × (p ≢ q)
in_without p q [] e = absurd (false≢true e)
in_without p q (x ∷ xs) e = by (in_without p q xs) (x == q) refl e
  where
    by : (is_in p (without q xs) ≡ true → (is_in p xs ≡ true) × (p ≢ q)) → (b : Bool) → (x == q) ≡ b →
        is_in p (cond (not b) (x ∷ without q xs) (without q xs)) ≡ true → ((x == p || is_in p xs) ≡ true) × (p ≢ q)
    by more true h e = let rest = more e in (or_right (x == p) (is_in p xs) rest.0, rest.1)
    by more false h e = in_cases p x (without q xs) _ e
        (λ same. (or_left (x == p) (is_in p xs) (eq-eqb x p same), λ is. differ_not x q h (same ∙ is)))
        (λ left. let rest = more left in (or_right (x == p) (is_in p xs) rest.0, rest.1))

-- and it stays in the line when another one leaves
pub stays_in : (p q : ℕ) (line : List ℕ) → p ≢ q → is_in p (without q line) ≡ is_in p line
stays_in p q [] other = refl
stays_in p q (x ∷ xs) other = by (stays_in p q xs other) (x == q) refl
  where
    by : is_in p (without q xs) ≡ is_in p xs → (b : Bool) → (x == q) ≡ b →
        is_in p (cond (not b) (x ∷ without q xs) (without q xs)) ≡ (x == p || is_in p xs)
    by same true h = same ∙ sym (ap (λ b. b || is_in p xs) (differ x p (λ e. other (sym e ∙ eqb-true x q h))))
    by same false h = ap (λ b. (x == p) || b) same

none_then : (a b : Bool) → (a || b) ≡ false → (a ≡ false) × (b ≡ false)
none_then true b e = absurd (false≢true (sym e))
none_then false b e = (refl, e)

neither : (a b : Bool) → a ≡ false → b ≡ false → (a || b) ≡ false
neither a b e f = ap (λ x. x || b) e ∙ f

-- lines in which none is twice
pub once_without : (q : ℕ) (line : List ℕ) → IsOnce line → IsOnce (without q line)
once_without q [] once = tt
once_without q (x ∷ xs) once = by (once_without q xs once.1) (x == q)
  where
    absent : (b : Bool) → is_in x (without q xs) ≡ b → b ≡ false
    absent true e = absurd (false≢true (sym once.0 ∙ (in_without x q xs e).0))
    absent false e = refl

    by : IsOnce (without q xs) → (b : Bool) → IsOnce (cond (not b) (x ∷ without q xs) (without q xs))
    by rest true = rest
    by rest false = (absent (is_in x (without q xs)) refl, rest)

once_more : (q : ℕ) (line : List ℕ) → IsOnce line → is_in q line ≡ false → IsOnce (line ++ q ∷ [])
once_more q [] once new = (refl, tt)
once_more q (x ∷ xs) once new = (absent (is_in x (xs ++ q ∷ [])) refl, once_more q xs once.1 both.1)
  where
    both : ((x == q) ≡ false) × (is_in q xs ≡ false)
    both = none_then (x == q) (is_in q xs) new

    absent : (b : Bool) → is_in x (xs ++ q ∷ []) ≡ b → b ≡ false
    absent true e = by (in_more x q xs e)
      where
        by : (is_in x xs ≡ true) ⊎ (q ≡ x) → true ≡ false
        by (inl e) = absurd (false≢true (sym once.0 ∙ e))
        by (inr e) = absurd (differ_not x q both.0 (sym e))
    absent false e = refl

pub once_joined : (q : ℕ) (line : List ℕ) → IsOnce line → IsOnce (joined line q)
once_joined q line once = by (is_in q line) refl
  where
    by : (b : Bool) → is_in q line ≡ b → IsOnce (cond b line (line ++ q ∷ []))
    by true e = once
    by false e = once_more q line once e

pub once_drop : (line : List ℕ) → IsOnce line → IsOnce (drop 1 line)
once_drop [] once = tt
once_drop (x ∷ xs) once = once.1

-- who is in the rest is in the line, and isn't its first
pub in_rest : (p : ℕ) (line : List ℕ) → IsOnce line → is_in p (drop 1 line) ≡ true →
    (is_in p line ≡ true) × (slice_get line 0 ≢ Some p)
in_rest p [] once e = absurd (false≢true e)
in_rest p (x ∷ xs) once e = (
  or_right (x == p) (is_in p xs) e,
  λ first. false≢true (sym once.0 ∙ ap (λ n. is_in n xs) (some_same first) ∙ e),
)

-- the first of a line is in it; there is none where it is empty
pub first_in : (p : ℕ) (line : List ℕ) → slice_get line 0 ≡ Some p → is_in p line ≡ true
first_in p [] e = absurd (none_some e)
first_in p (x ∷ xs) e = or_left (x == p) (is_in p xs) (eq-eqb x p (some_same e))

pub no_first : (line : List ℕ) → slice_get line 0 ≡ None → drop 1 line ≡ []
no_first [] e = refl
no_first (x ∷ xs) e = absurd (none_some (sym e))
