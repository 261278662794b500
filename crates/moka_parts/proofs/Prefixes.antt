-- Beginnings of one list.
use Rattle.std.proofs.Common.{◌≡◌, ◌⊎◌, inl, inr, List, [], ◌∷◌, ◌++◌, refl, ap, sym, ◌∙◌, append_assoc}
use Rattle.std.proofs.lemmas.List.{append-nil}
use mathlib.Core.List.{IsPrefix}

-- each list begins itself
pub prefix_self : {A : Type 0} (xs : List A) → IsPrefix xs xs
prefix_self xs = ([], append-nil xs)

pub prefix_trans : {A : Type 0} (xs ys zs : List A) → IsPrefix xs ys → IsPrefix ys zs → IsPrefix xs zs
prefix_trans xs ys zs p q = (p.0 ++ q.0, sym (append_assoc xs p.0 q.0) ∙ (ap (λ w. w ++ q.0) p.1 ∙ q.1))

-- of two beginnings of one list, one begins the other
pub prefix_either : {A : Type 0} (xs ys zs : List A) → IsPrefix xs zs → IsPrefix ys zs → IsPrefix xs ys ⊎ IsPrefix ys xs
prefix_either [] ys zs p q = inl (ys, refl)
prefix_either (x ∷ xs) [] zs p q = inr (x ∷ xs, refl)
prefix_either (x ∷ xs) (y ∷ ys) [] p q = absurd (cc (p.1))
prefix_either {A} (x ∷ xs) (y ∷ ys) (z ∷ zs) p q =
    let heads : x ≡ y = cc (p.1, q.1) in
    let l : IsPrefix xs ys → IsPrefix (x ∷ xs) (y ∷ ys) = λ (r : IsPrefix xs ys). (r.0, cc (heads, r.1)) in
    let m : IsPrefix ys xs → IsPrefix (y ∷ ys) (x ∷ xs) = λ (r : IsPrefix ys xs). (r.0, cc (heads, r.1)) in
    elim (prefix_either xs ys zs (p.0, cc (p.1)) (q.0, cc (q.1))) [ inl r ↦ inl (l r) | inr r ↦ inr (m r) ]

-- an element behind a list, and a place in both
pub snoc_cases : {A : Type 0} (xs : List A) (c : A) (before : List A) (d : A) (after : List A) → xs ++ c ∷ [] ≡ before ++ d ∷ after
    → ((xs ≡ before) × (c ≡ d)) ⊎ ((rest : List A) × (xs ≡ before ++ d ∷ rest))
snoc_cases [] c [] d after e = inl (refl, cc (e))
snoc_cases (x ∷ xs) c [] d after e = inr (xs, cc (e))
snoc_cases [] c (b ∷ []) d after e = absurd (cc (e))
snoc_cases [] c (b ∷ b' ∷ bs) d after e = absurd (cc (e))
snoc_cases {A} (x ∷ xs) c (b ∷ bs) d after e =
    let h : x ≡ b = cc (e) in
    let r = snoc_cases xs c bs d after (cc (e)) in
    let l : (xs ≡ bs) × (c ≡ d) → (x ∷ xs ≡ b ∷ bs) × (c ≡ d) = λ (p : (xs ≡ bs) × (c ≡ d)). (cc (h, p.0), p.1) in
    let m : (rest : List A) × (xs ≡ bs ++ d ∷ rest) → (rest : List A) × (x ∷ xs ≡ b ∷ (bs ++ d ∷ rest)) = λ (p : (rest : List A) × (xs ≡ bs ++ d ∷ rest)). (p.0, cc (h, p.1)) in
    elim r [ inl p ↦ inl (l p) | inr p ↦ inr (m p) ]
