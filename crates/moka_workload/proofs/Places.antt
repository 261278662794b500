-- Lists that grow by a place.
use Rattle.std.proofs.Common.{◌≡◌, ℕ, ◌+◌, List, [], ◌∷◌, ◌++◌, take, slice_get, Some, ap, ◌∙◌, append_assoc, sym}
use Rattle.std.proofs.lemmas.List.{take_more}
use Rattle.std.proofs.lemmas.Option.{get_or_from_slice_get, slice_get_within}

-- one more is taken
pub take_next : {X : Type 0} (xs : List X) (i : ℕ) (x : X) → slice_get xs i ≡ Some x
    → take (i + 1) xs ≡ take i xs ++ x ∷ []
take_next xs i x e =
    take_more xs i x (slice_get_within xs i x e)
    ∙ ap (λ v. take i xs ++ v ∷ []) (get_or_from_slice_get xs i x x e)

-- one more is appended
pub append_next : {X : Type 0} (before xs now next : List X) (i : ℕ) (x : X)
    → now ≡ before ++ take i xs → slice_get xs i ≡ Some x → next ≡ now ++ x ∷ []
    → next ≡ before ++ take (i + 1) xs
append_next before xs now next i x is e pushed =
    pushed
    ∙ ap (λ front. front ++ x ∷ []) is
    ∙ append_assoc before (take i xs) (x ∷ [])
    ∙ ap (λ rest. before ++ rest) (sym (take_next xs i x e))
