-- What a write-behind cache stands for.
use Rattle.std.specs.Prelude.{◌≡◌, ◌⊎◌, ℕ, true, false, nat_eq, List, Some, IsSome, is_some}
use Rattle.std.specs.List.{IsDistinct}
use Rattle.std.specs.Set.{is_member}
use Rattle.moka_keepers.specs.declared.write.Write.{Write}
use Rattle.moka_keepers.specs.Keeping.{Kept}
use Rattle.moka_keepers.specs.Owing.{Owes, Truth, true_pairs}
use Rattle.moka_keepers.specs.Writes.{Pairs, last_of}
use Rattle.moka_behind.specs.declared.behind.Behind.{Behind}
use Rattle.moka_behind.specs.Holding.{Holds}

-- memory was wanting: each later call that can answer so does
abbrev pub IsSpent : Behind → Type 0
IsSpent behind = behind.spent ≡ true

-- unless it is spent, the behind's cache holds some pairs, and no call of it is live
abbrev pub IsUsable : Behind → Type 0
IsUsable behind = behind.spent ≡ false → (pairs : Pairs) × Holds behind.cache pairs

-- The write-behind cache, which isn't spent, stands for this truth, over a keeper that tells so
-- much: of the sets and dels these were sent, and the rest is unsent; these keys are stored; and
-- where the keeper tells its map, each stored value is true.
pub record IsBehind (behind : Behind) (kept : Kept) (truth : Truth) (stored : List ℕ)
    (sent : List Write) : Type 0 where
  pub unspent : behind.spent ≡ false
  pub owes : Owes behind.unsent kept truth sent
  pub pairs : Pairs
  pub holds : Holds behind.cache pairs
  pub distinct : IsDistinct nat_eq stored
  pub keys : (key : ℕ) → is_some (pairs key) ≡ is_member nat_eq stored key
  pub true_values : (key : ℕ) (value : ℕ) → IsSome kept.pairs → pairs key ≡ Some value →
      true_pairs truth key ≡ Some value

-- the key is stored, or has an unsent write
abbrev pub IsOwn : Behind → List ℕ → ℕ → Type 0
IsOwn behind stored key = (is_member nat_eq stored key ≡ true) ⊎ IsSome (last_of key behind.unsent)
