-- Entries of a history, and the map that they leave. They know of no words.
use Rattle.std.specs.Prelude.{◌≡◌, ℕ, Bool, List, [], ◌∷◌, take, Option, None, Some}
use Rattle.std.specs.List.{slice_get}
use Rattle.std.specs.Option.{option_map}
use Rattle.moka_hist.specs.Finite.{put_key}

-- What a change says of a table: on which ticket it was made, its key, the value that it puts there,
-- or None of a removal, and the pair that stood there before.
pub record Entry (K V : Type 0) : Type 0 where
  pub ticket : ℕ
  pub key : K
  pub put : Option V
  pub former : Option (K × V)

module _ {K V : Type 0} where
  -- the pair that stands at its key after it
  abbrev pub pair_put : Entry K V → Option (K × V)
  pair_put e = option_map (λ v. (e.key, v)) e.put

  -- a map after these entries: each has its pair put at the keys equal to its own
  abbrev pub map_from : (K → K → Bool) → (K → Option (K × V)) → List (Entry K V) → K →
      Option (K × V)
  map_from eq f [] = f
  map_from eq f (e ∷ es) = map_from eq (put_key eq f e.key (pair_put e)) es

  -- the map after these entries of an empty table
  abbrev pub map_after : (K → K → Bool) → List (Entry K V) → K → Option (K × V)
  map_after eq es = map_from eq (λ q. None) es

  -- the former pair of each entry is what the map had at its key after the entries before it
  abbrev pub IsLegal : (K → K → Bool) → List (Entry K V) → Type 0
  IsLegal eq es = (n : ℕ) (e : Entry K V) → slice_get es n ≡ Some e →
      e.former ≡ map_after eq (take n es) e.key
