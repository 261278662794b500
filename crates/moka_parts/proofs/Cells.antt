-- The words of a book after a step.
use Rattle.std.proofs.Common.{◌≡◌, ◌≢◌, ℕ, zero, suc, ◌<◌, Bool, true, false, inl, inr, List, [], ◌∷◌, ◌++◌, length, slice_set, refl, ap, sym, subst, ◌∙◌}
use Rattle.std.proofs.lemmas.List.{get_or-set_other}
use Rattle.std.proofs.lemmas.Grind.{get_or-set_at}
use Rattle.std.proofs.lemmas.Bool.Decides.{eqb_tells}
use Rattle.logbook.specs.Pages.{Cell, cell}

pub set_here : (cs : List Cell) (k x : ℕ) → k < length cs → cell (slice_set cs k (x, true)) k ≡ (x, true)
set_here cs k x below = get_or-set_at cs k k (x, true) (0, false) refl below

pub set_other : (cs : List Cell) (k x n : ℕ) → n ≢ k → cell (slice_set cs k (x, true)) n ≡ cell cs n
set_other cs k x n apart = get_or-set_other cs k n (x, true) (0, false) apart

-- a word that is set to what it is
pub set_same : (cs : List Cell) (k : ℕ) → k < length cs → (cell cs k).1 ≡ true → (n : ℕ) → cell (slice_set cs k ((cell cs k).0, true)) n ≡ cell cs n
set_same cs k below home n =
    let here : n ≡ k → cell (slice_set cs k ((cell cs k).0, true)) n ≡ cell cs n =
    λ e. subst (λ (m : ℕ). cell (slice_set cs k ((cell cs k).0, true)) m ≡ cell cs m) (sym e) (set_here cs k (cell cs k).0 below ∙ ap (λ (b : Bool). ((cell cs k).0, b)) (sym home)) in
    elim (eqb_tells n k) [ inl p ↦ here p.1 | inr p ↦ set_other cs k (cell cs k).0 n p.1 ]

-- a word at home stays there
pub set_home : (cs : List Cell) (k x : ℕ) → k < length cs → (n : ℕ) → (cell cs n).1 ≡ true → (cell (slice_set cs k (x, true)) n).1 ≡ true
set_home cs k x below n home =
    let here : n ≡ k → (cell (slice_set cs k (x, true)) n).1 ≡ true =
    λ e. subst (λ (m : ℕ). (cell (slice_set cs k (x, true)) m).1 ≡ true) (sym e) (ap (λ (c : Cell). c.1) (set_here cs k x below)) in
    elim (eqb_tells n k) [ inl p ↦ here p.1 | inr p ↦ ap (λ (c : Cell). c.1) (set_other cs k x n p.1) ∙ home ]

-- one more word, which isn't at home
pub more_same : (cs : List Cell) (n : ℕ) → cell (cs ++ (0, false) ∷ []) n ≡ cell cs n
more_same [] zero = refl
more_same [] (suc n) = refl
more_same (c ∷ cs) zero = refl
more_same (c ∷ cs) (suc n) = more_same cs n

-- a place past the words has none at home
pub none_past : (cs : List Cell) → (cell cs (length cs)).1 ≡ false
none_past [] = refl
none_past (c ∷ cs) = none_past cs
