-- Finite maps as functions, and the lists that list them.
use Rattle.std.specs.Prelude.{◌≡◌, ℕ, ◌+◌, ◌==◌, Bool, true, false, cond, List, [], ◌∷◌, ◌&&◌, Option}
use Rattle.std.specs.Map.{lookup, keys_of}
use Rattle.std.specs.List.{IsDistinct}
use Rattle.moka_hist.specs.declared.loads.Kind.{Kind}
use Rattle.moka_hist.specs.declared.loads.Load.{Load}
use Rattle.moka_hist.specs.declared.loads.Kind.TheVariants.{GetWith, Optional, Try, Compute}

-- f, but w at the number n
abbrev pub put_at : {A : Type 0} → (ℕ → A) → ℕ → A → ℕ → A
put_at f n w m = cond (n == m) w (f m)

-- f, but w at the keys equal to k
abbrev pub put_key : {K A : Type 0} → (K → K → Bool) → (K → A) → K → A → K → A
put_key eq f k w q = cond (eq k q) w (f q)

-- two kinds are one
abbrev pub kind_eq : Kind → Kind → Bool
kind_eq GetWith GetWith = true
kind_eq GetWith Optional = false
kind_eq GetWith Try = false
kind_eq GetWith Compute = false
kind_eq Optional GetWith = false
kind_eq Optional Optional = true
kind_eq Optional Try = false
kind_eq Optional Compute = false
kind_eq Try GetWith = false
kind_eq Try Optional = false
kind_eq Try Try = true
kind_eq Try Compute = false
kind_eq Compute GetWith = false
kind_eq Compute Optional = false
kind_eq Compute Try = false
kind_eq Compute Compute = true

-- two loads are one: of equal keys and one kind
abbrev pub load_eq : {K : Type 0} → (K → K → Bool) → Load K → Load K → Bool
load_eq eq a b = eq a.key b.key && kind_eq a.kind b.kind

-- how often the number stands in the list
abbrev pub times : ℕ → List ℕ → ℕ
times n [] = 0
times n (x ∷ xs) = cond (n == x) (times n xs + 1) (times n xs)

-- the pairs list the map: each key of the map once, and no other
pub record Lists {K A : Type 0} (eq : K → K → Bool) (pairs : List (K × A)) (f : K → Option A)
    : Type 0 where
  pub distinct : IsDistinct eq (keys_of pairs)
  pub same : (q : K) → lookup (eq q) pairs ≡ f q
