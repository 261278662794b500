-- What a clone has to do with its original.
use Rattle.std.specs.Prelude.{◌≡◌, List, [], ◌∷◌, refl}
use Rattle.std.specs.List.{AllZip}

-- a clone equals its original
abbrev pub IsExact : {A : Type 0} → (A → A → Type 0) → Type 0
IsExact {A} is_clone = (x y : A) → is_clone x y → y ≡ x

-- a list of clones of a list's items is that list
pub items_exact : {A : Type 0} {is_clone : A → A → Type 0} → IsExact is_clone
    → (xs ys : List A) → AllZip is_clone xs ys → ys ≡ xs
items_exact exact [] [] same = refl
items_exact exact [] (y ∷ ys) never = absurd never
items_exact exact (x ∷ xs) [] never = absurd never
items_exact exact (x ∷ xs) (y ∷ ys) same
    = λ i. exact x y same.0 i ∷ items_exact exact xs ys same.1 i
