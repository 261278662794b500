-- What an iterator over a map has still to give.
use Rattle.std.specs.Prelude.{◌≡◌, ◌⊎◌, ◌↔◌, ℕ, ◌<◌, ◌≤◌, Bool, true, false, List, [], ◌∷◌, Option, Some, None, IsSome, Result, Ok, Err}
use Rattle.std.specs.Hash.{HashWrites}
use Rattle.std.specs.List.{AllByRecursion, IsDistinct}
use Rattle.std.specs.Map.{keys_of}
use Rattle.std.specs.Set.{is_member}
use Rattle.std.specs.declared.alloc.AllocError.{AllocError}
use Rattle.std.specs.declared.hash.Hasher as hasher
use Rattle.std.specs.declared.hash.BuildHasher as builder
use Rattle.moka_buckets.specs.Views.{Buckets, segment_for}
use Rattle.moka_map.specs.Maps.{entries, segments_in}

-- the map, the next segment to list, and the keys that were listed and are still to come
pub record Coming (K V S : Type 0) : Type 0 where
  pub map : Buckets K V S
  pub segment : ℕ
  pub keys : List K

module _ {K V S H : Type 0} (b : builder.Ghosts S H) (h : hasher.Ghosts H) (eq : K → K → Bool)
    (input : K → HashWrites) where
  -- the pair under q is still to come: its key was listed, or its segment is yet to be
  abbrev pub IsToCome : Coming K V S → K → Type 0
  IsToCome s q = (is_member eq s.keys q ≡ true) ⊎
      ((s.segment ≤ segment_for b h eq input s.map q) × IsSome (entries b h eq input s.map q))

  -- no pair is to come, and no segment to be listed
  abbrev pub IsOver : Coming K V S → Type 0
  IsOver s = (s.keys ≡ []) × (segments_in s.map ≤ s.segment)

  -- the keys that were listed are of the map and of segments that were passed, each once
  pub record AreListed (s : Coming K V S) : Type 0 where
    pub distinct : IsDistinct eq s.keys
    pub passed : AllByRecursion (λ k. (segment_for b h eq input s.map k < s.segment)
        × IsSome (entries b h eq input s.map k)) s.keys

  -- What a call of `next` gives, and what is to come then: a pair of the map that was to come, and
  -- all others; or nothing was to come, and the iterator is over; or memory was wanting.
  abbrev pub GivesNext : Coming K V S → Option (Result (K × V) AllocError) → Coming K V S → Type 0
  GivesNext old None new = (new.map ≡ old.map) × ((q : K) → IsToCome old q → ⊥) × IsOver new
  GivesNext old (Some (Err e)) new = new.map ≡ old.map
  GivesNext old (Some (Ok p)) new =
      (new.map ≡ old.map) × IsToCome old p.0 × (entries b h eq input old.map p.0 ≡ Some p)
      × ((q : K) → IsToCome new q ↔ (IsToCome old q × (eq p.0 q ≡ false)))

  -- An iterator that is over stays so, and gives nothing.
  abbrev pub StaysOver : Coming K V S → Option (Result (K × V) AllocError) → Coming K V S → Type 0
  StaysOver old given new = IsOver old → (given ≡ None) × (new ≡ old)

  -- the iterator gives these pairs, one after the other
  abbrev pub Runs : Coming K V S → List (K × V) → Coming K V S → Type 0
  Runs s [] t = t ≡ s
  Runs s (p ∷ ps) t = (mid : Coming K V S) × GivesNext s (Some (Ok p)) mid × Runs mid ps t

-- The pairs are those of the map: no key twice, and each key that the map has.
pub record AreEachOnce {K V : Type 0} (eq : K → K → Bool) (pairs : K → Option (K × V))
    (given : List (K × V)) : Type 0 where
  pub distinct : IsDistinct eq (keys_of given)
  pub of_map : AllByRecursion (λ p. pairs p.0 ≡ Some p) given
  pub all : (q : K) → IsSome (pairs q) → is_member eq (keys_of given) q ≡ true
