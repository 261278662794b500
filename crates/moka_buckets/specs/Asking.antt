-- Closures that are handed in: the test of a key, and what is made of keys.
use Rattle.std.specs.Prelude.{◌≡◌, ℕ, Bool, List, [], ◌∷◌, Option, is_some}
use denote.Ref.{Bor}
use Rattle.std.specs.Fn.{Mut, Called, ComputesKey}
use Rattle.std.specs.List.{IsDistinct, AllByRecursion}
use Rattle.std.specs.Set.{is_member}

-- the test is true of the keys equal to q and of no others, and the hash is that of q
pub record Asks {F K : Type 0} (g : Mut F (Bor K × Unit {0}) Bool) (eq : K → K → Bool)
    (by : K → ℕ) (hash : ℕ) (f : F) (q : K) : Type 0 where
  pub computes : ComputesKey g (eq q) f
  pub hashed : hash ≡ by q

-- calls of f at the elements, one after the other, give these, and leave it so
abbrev pub CallsEach : {F A R : Type 0} → Mut F (Bor A × Unit {0}) R → F → List A → List R → F →
    Type 0
CallsEach g f [] [] last = last ≡ f
CallsEach {F} {A} g f (x ∷ xs) (r ∷ rs) last =
    (shown : Bor A) × (f' : F) × (shown.now ≡ x) × Called g f (shown, tt) r f' ×
    CallsEach g f' xs rs last
CallsEach g f [] (r ∷ rs) last = ⊥
CallsEach g f (x ∷ xs) [] last = ⊥

-- they give these
abbrev pub ListsCalls : {F A R : Type 0} → Mut F (Bor A × Unit {0}) R → F → List A → List R → Type 0
ListsCalls {F} g f xs rs = (last : F) × CallsEach g f xs rs last

-- These are the keys of the segment that the map has, each once.
pub record ListsSegment {K A : Type 0} (eq : K → K → Bool) (place : K → ℕ) (map : K → Option A)
    (segment : ℕ) (keys : List K) : Type 0 where
  pub distinct : IsDistinct eq keys
  pub own : AllByRecursion (λ k. place k ≡ segment) keys
  pub listed : (q : K) → place q ≡ segment → is_member eq keys q ≡ is_some (map q)
