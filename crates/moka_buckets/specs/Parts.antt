-- The segments of a table, and to which of them a key belongs.
use Rattle.std.specs.Prelude.{◌≡◌, ◌≢◌, ℕ, ◌+◌, ◌*◌, ◌/◌, ◌^◌, ◌<◌, ◌≤◌, max, Bool, true, List, [], ◌∷◌, length, Some, None, Result, IfOk, OnErr}
use Rattle.std.specs.Option.{option_map_or}
use Rattle.std.specs.List.{slice_get, flat_map}
use Rattle.std.specs.declared.alloc.AllocError.{AllocError}
use Rattle.moka_hist.specs.declared.records.Stored.{Stored}
use Rattle.moka_hist.specs.declared.tables.TableTurn.{TableTurn}
use Rattle.moka_words.specs.Effect.{Memory, root, words_of}
use Rattle.moka_hist.specs.declared.tables.TableTurn.TheVariants as turn
use Rattle.moka_table.specs.Map.{Pairs, SameMap}
use Rattle.moka_buckets.specs.KeyOps.{MovesKey}
use Rattle.moka_buckets.specs.declared.node.Node.{Node}
use Rattle.moka_buckets.specs.declared.part.Part.{Part}
use Rattle.moka_buckets.specs.declared.bucket_call.BucketCall.{BucketCall}
use Rattle.moka_buckets.specs.Arrays.{ArePlaced, memory_of}
use Rattle.moka_buckets.specs.Tables.{map_of, left_in, IsWell}
use Rattle.moka_buckets.specs.Steps.{FitsCall, Done, Adds}
use Rattle.moka_buckets.specs.Listed.{listed_in}

-- the segment of a hash, of so many segments: each has as many hashes, in their order; of a power
-- of two segments it is the top bits
abbrev pub segment_of : (count hash : ℕ) → ℕ
segment_of count hash = hash * count / 2 ^ 64

module _ {K V : Type 0} where
  abbrev pub memory_at : Part K V → Memory
  memory_at p = memory_of p.arrays

  abbrev pub keys_at : Part K V → ℕ
  keys_at p = p.arrays.segment.len

  -- the most keys that it ever had
  abbrev pub peak_at : Part K V → ℕ
  peak_at p = max p.peak p.arrays.segment.len

  abbrev pub map_at : (K → K → Bool) → Part K V → Pairs K V
  map_at eq p = map_of eq (memory_at p) p.nodes.items

  -- how many keys there are in all
  abbrev pub keys_of : List (Part K V) → ℕ
  keys_of [] = 0
  keys_of (p ∷ ps) = keys_at p + keys_of ps

  -- the map of the segment that a key belongs to
  abbrev pub map_over : (K → K → Bool) → (K → ℕ) → List (Part K V) → Pairs K V
  map_over eq hash parts q = option_map_or (λ p. map_at eq p q)
      (slice_get parts (segment_of (length parts) (hash q))) None

  -- The segment of this number, of so many: it is well for the most keys that it had, which are no
  -- more than the table's, and has nodes of its own
  -- keys alone.
  pub record IsPart (eq : K → K → Bool) (hash : K → ℕ) (count first most i : ℕ) (p : Part K V) : Type 0 where
    pub placed : ArePlaced p.arrays
    pub well : IsWell eq hash (memory_at p) p.nodes.items first (peak_at p)
    pub own : (n : ℕ) (node : Node K V) → slice_get p.nodes.items n ≡ Some node →
        segment_of count node.hash ≡ i
    pub few : peak_at p ≤ most

  -- what a table keeps of its segments
  pub record AreParts (eq : K → K → Bool) (hash : K → ℕ) (parts : List (Part K V))
      (first most len : ℕ) : Type 0 where
    pub each : (i : ℕ) (p : Part K V) → slice_get parts i ≡ Some p →
        IsPart eq hash (length parts) first most i p
    pub counted : len ≡ keys_of parts
    pub some : 0 < length parts

  -- a call fits the segment of its hash
  pub record FitsParts (eq : K → K → Bool) (hash : K → ℕ) (parts : List (Part K V))
      (c : BucketCall K V) : Type 0 where
    pub part : Part K V
    pub there : slice_get parts (segment_of (length parts) c.hash) ≡ Some part
    pub fits : FitsCall eq hash (memory_at part) part.nodes.items c

  -- what a call has left there
  abbrev pub left_over : (first : ℕ) → List (Part K V) → BucketCall K V → ℕ
  left_over first parts c =
      option_map_or (λ p. left_in first (peak_at p) (memory_at p) c.table)
      (slice_get parts (segment_of (length parts) c.hash)) 0

  -- what a step of a call to these segments may rest on
  pub record CanGo (eq : K → K → Bool) (hash : K → ℕ) (parts : List (Part K V)) (first most len : ℕ)
      (c : BucketCall K V) : Type 0 where
    pub respects : (x y : K) → eq x y ≡ true → hash x ≡ hash y
    pub well : AreParts eq hash parts first most len
    pub fits : FitsParts eq hash parts c

  -- what a step of a call does to its segment
  pub record Goes (eq : K → K → Bool) (hash : K → ℕ) (first : ℕ) (old : Part K V) (before : BucketCall K V)
      (gives : Result (TableTurn K V) AllocError) (new : Part K V) (after : BucketCall K V) : Type 0 where
    pub done : Done eq hash first (peak_at old) (memory_at old) old.nodes.items before gives
        (memory_at new) new.nodes.items after
    pub placed : ArePlaced new.arrays
    pub peak : new.peak ≡ peak_at old
    pub adds : Adds before.hash old.nodes.items new.nodes.items

  -- And to all segments: it is undecided, or decides by the map, or without memory leaves all as it
  -- was. All other calls fit; those to other
  -- segments have as much left as before.
  pub record GoesOver (eq : K → K → Bool) (hash : K → ℕ) (first : ℕ) (old : List (Part K V))
      (most len : ℕ) (before : BucketCall K V)
      (gives : Result (TableTurn K V) AllocError) (new : List (Part K V)) (all : ℕ)
      (after : BucketCall K V) : Type 0 where
    pub well : AreParts eq hash new first (max most all) all
    pub operation : after.operation ≡ before.operation
    pub moves : IfOk gives (λ t. MovesKey eq before.operation (map_over eq hash old) len t
        (map_over eq hash new) all)
    pub undecided : IfOk gives (λ t. t ≡ turn.Going → FitsParts eq hash new after)
    pub nears : IfOk gives (λ t. t ≡ turn.Going → left_over first new after < left_over first old before)
    pub others : (c : BucketCall K V) → FitsParts eq hash old c → FitsParts eq hash new c
    pub elsewhere : (c : BucketCall K V) →
        segment_of (length old) c.hash ≢ segment_of (length old) before.hash →
        left_over first new c ≡ left_over first old c
    pub err : OnErr gives (SameMap (map_over eq hash old) (map_over eq hash new) × (all ≡ len) ×
        FitsParts eq hash new after
        × (left_over first new after ≡ left_over first old before)
        × ((c : BucketCall K V) → FitsParts eq hash old c → left_over first new c ≤ left_over first old c))

  -- the pairs of a segment in the order of the root's buckets, and those of all segments in their order
  abbrev pub listed_part : Part K V → List (K × Stored V)
  listed_part p = listed_in p.nodes.items (words_of (memory_at p) (root (memory_at p)))

  abbrev pub listed_over : List (Part K V) → List (K × Stored V)
  listed_over parts = flat_map listed_part parts
