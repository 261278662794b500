-- What the keys of numbers say of the numbers.
use Rattle.std.specs.Prelude.{◌≡◌, ℕ, Bool, true, false, Option, Some, None, is_some}
use Rattle.std.specs.Option.{option_map_or}

-- `more` has at each number what `known` has there, and anything at numbers where that has nothing:
-- so of numbers that are still to come
abbrev pub Agrees : {A : Type 0} → (more known : ℕ → Option A) → Type 0
Agrees {A} more known = (n : ℕ) (a : A) → known n ≡ Some a → more n ≡ Some a

-- two numbers have one key; those without a key count as one
abbrev pub is_one_key : {K : Type 0} → (K → K → Bool) → Option K → Option K → Bool
is_one_key eq None None = true
is_one_key eq None (Some l) = false
is_one_key eq (Some k) None = false
is_one_key eq (Some k) (Some l) = eq k l

-- equal keys have one hash
abbrev pub Respects : {K : Type 0} → (K → K → Bool) → (K → ℕ) → Type 0
Respects {K} eq hash = (x y : K) → eq x y ≡ true → hash x ≡ hash y

module _ {K : Type 0} where
  -- what `keys`, the key of each number, says of numbers: their hashes, which two have one key,
  -- which have this one, and which have a key at all
  abbrev pub hash_by : (K → ℕ) → (keys : ℕ → Option K) → ℕ → ℕ
  hash_by hash keys n = option_map_or hash (keys n) 0

  abbrev pub same_by : (K → K → Bool) → (keys : ℕ → Option K) → ℕ → ℕ → Bool
  same_by eq keys n m = is_one_key eq (keys n) (keys m)

  abbrev pub own_by : (K → K → Bool) → (keys : ℕ → Option K) → (key : K) → ℕ → Bool
  own_by eq keys key n = option_map_or (eq key) (keys n) false

  -- the same of a call with this key, or with none
  abbrev pub own_for : (K → K → Bool) → (keys : ℕ → Option K) → (key : Option K) → ℕ → Bool
  own_for eq keys key n = option_map_or (λ k. own_by eq keys k n) key false

  abbrev pub mine_by : (keys : ℕ → Option K) → ℕ → Bool
  mine_by keys n = is_some (keys n)
