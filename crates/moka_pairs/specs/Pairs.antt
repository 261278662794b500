-- Pairs by their numbers, and the map that the words of a segment give with them.
use Rattle.std.specs.Prelude.{◌≡◌, ℕ, Bool, Option, Some, None, if◌then◌else◌}
use Rattle.std.specs.Option.{option_map}
use Rattle.std.specs.List.{find}
use Rattle.moka_words.specs.Effect.{Memory}
use Rattle.moka_growth.specs.Maps.{present_nodes}
use Rattle.moka_pairs.specs.Keys.{own_by}

module _ {K V : Type 0} where
  abbrev pub pair_at : (pairs : ℕ → Option (K × V)) → Option ℕ → Option (K × V)
  pair_at pairs None = None
  pair_at pairs (Some n) = pairs n

  -- each key that is known is that of its number's pair
  abbrev pub AreKeysOf : (known : ℕ → Option K) → (pairs : ℕ → Option (K × V)) → Type 0
  AreKeysOf known pairs =
      (n : ℕ) (k : K) → known n ≡ Some k → option_map (λ p. p.0) (pairs n) ≡ Some k

  -- the key of a pair, if it is one of the segment
  abbrev pub key_if : (is_mine : K → Bool) → Option (K × V) → Option K
  key_if is_mine None = None
  key_if is_mine (Some p) = if is_mine p.0 then Some p.0 else None

  -- the keys of one segment, where all segments share the numbers
  abbrev pub segment_keys : (is_mine : K → Bool) → (pairs : ℕ → Option (K × V)) → ℕ → Option K
  segment_keys is_mine pairs n = key_if is_mine (pairs n)

  -- the pair of the node that is present under the key
  abbrev pub map_of : (K → K → Bool) → Memory → (known : ℕ → Option K) →
      (pairs : ℕ → Option (K × V)) → K → Option (K × V)
  map_of eq m known pairs key = pair_at pairs (find (own_by eq known key) (present_nodes m))
