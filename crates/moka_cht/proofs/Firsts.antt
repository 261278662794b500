-- The first of a list of which a function gives something.
use Rattle.std.proofs.Common.{◌≡◌, ◌≢◌, ℕ, zero, suc, List, [], ◌∷◌, length, Option, Some, None, get_or, refl, sym, ap, ◌∙◌, subst, arith}
use Rattle.std.specs.Option.{option_or}
use Rattle.moka_cht.specs.Buckets.{first_of}

clash : {B : Type 0} {o : Option B} {y : B} → o ≡ None → o ≡ Some y → ⊥
clash a b = cc

-- it gives nothing of any
pub first_none : {A B : Type 0} (f : A → Option B) (d : A) (xs : List A) → ((j : ℕ) → f (get_or xs j d) ≡ None) → first_of f xs ≡ None
first_none f d [] none = refl
first_none f d (x ∷ xs) none = ap (λ o. option_or o (first_of f xs)) (none 0) ∙ first_none f d xs (λ j. none (suc j))

-- it gives something of one alone
pub first_some : {A B : Type 0} (f : A → Option B) (d : A) (xs : List A) (i : ℕ) (y : B) → f d ≡ None → f (get_or xs i d) ≡ Some y → ((j : ℕ) → j ≢ i → f (get_or xs j d) ≡ None) →
    first_of f xs ≡ Some y
first_some f d [] i y none here others = absurd (clash none here)
first_some f d (x ∷ xs) zero y none here others = ap (λ o. option_or o (first_of f xs)) here
first_some f d (x ∷ xs) (suc i) y none here others =
    ap (λ o. option_or o (first_of f xs)) (others 0 (λ e. absurd (omega (arith, e))))
    ∙ first_some f d xs i y none here (λ j apart. others (suc j) (λ e. apart (omega (arith, e))))

-- two functions that give the same, place by place
pub first_same : {A B : Type 0} (f g : A → Option B) (d : A) (xs ys : List A) → length xs ≡ length ys → ((j : ℕ) → f (get_or xs j d) ≡ g (get_or ys j d)) → first_of f xs ≡ first_of g ys
first_same f g d [] [] long same = refl
first_same f g d [] (y ∷ ys) long same = absurd (omega (arith, long))
first_same f g d (x ∷ xs) [] long same = absurd (omega (arith, long))
first_same f g d (x ∷ xs) (y ∷ ys) long same =
    ap (λ o. option_or o (first_of f xs)) (same 0)
    ∙ ap (option_or (g y)) (first_same f g d xs ys (let e = long in omega arith) (λ j. same (suc j)))
