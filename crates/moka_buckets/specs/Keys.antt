-- Calls that list the keys of a segment, among all segments of a table.
use Rattle.std.specs.Prelude.{◌≡◌, ◌⊎◌, ◌↔◌, ℕ, ◌<◌, ◌≤◌, Bool, true, false, List, [], length, Option, None, Some, IsSome, Result, Ok, IfOk, OnErr}
use Rattle.std.specs.Option.{option_map_or, option_to_list}
use Rattle.std.specs.List.{slice_get, flat_map}
use Rattle.std.specs.declared.alloc.AllocError.{AllocError}
use Rattle.moka_words.specs.declared.words.Word.{Word}
use Rattle.moka_growth.specs.declared.kinds.CallKind.TheVariants as kind
use Rattle.moka_growth.specs.Calls.{Step, Going, Decided, Nodes, call_from}
use Rattle.moka_calls.specs.Standing.{IsGoing}
use Rattle.moka_table.specs.Map.{SameMap}
use Rattle.moka_buckets.specs.declared.node.Node.{Node}
use Rattle.moka_buckets.specs.declared.part.Part.{Part}
use Rattle.moka_buckets.specs.declared.bucket_call.BucketCall.{BucketCall}
use Rattle.moka_buckets.specs.declared.keys_call.KeysCall.{KeysCall}
use Rattle.moka_buckets.specs.Arrays.{ArePlaced}
use Rattle.moka_buckets.specs.Nodes.{key_in}
use Rattle.moka_buckets.specs.Tables.{left_in}
use Rattle.moka_buckets.specs.Walks.{carried, is_ended, listed_by, node_next, word_next, Covers, Lead, WalksOn}
use Rattle.moka_buckets.specs.Parts.{map_over, memory_at, peak_at, segment_of, AreParts, FitsParts}

module _ {K V : Type 0} where
  -- What one step of a call does to its segment.
  pub record Leads (eq : K → K → Bool) (hash : K → ℕ) (first : ℕ) (old : Part K V) (before : Step)
      (gives : Result Bool AllocError) (new : Part K V) (after : Step) : Type 0 where
    pub lead : IfOk gives (λ done. Lead eq hash old.nodes.items first (peak_at old) (memory_at old)
        before (memory_at new) after)
    pub ended : IfOk gives (λ done. done ≡ is_ended after)
    pub nodes : new.nodes ≡ old.nodes
    pub peak : new.peak ≡ old.peak
    pub placed : ArePlaced new.arrays
    pub err : OnErr gives ((memory_at new ≡ memory_at old) × (after ≡ before))

  -- a call fits its segment: it goes on, or has ended
  pub record FitsThere (eq : K → K → Bool) (hash : K → ℕ) (parts : List (Part K V)) (c : KeysCall) :
      Type 0 where
    pub part : Part K V
    pub there : slice_get parts c.segment ≡ Some part
    pub walks : WalksOn eq hash (memory_at part) part.nodes.items c.table

  -- one to a segment that isn't there has made no step, or has ended without a key
  pub record FitsNowhere (parts : List (Part K V)) (c : KeysCall) : Type 0 where
    pub absent : length parts ≤ c.segment
    pub empty : (c.table ≡ Going (call_from kind.Keys 0)) ⊎ (c.table ≡ Decided (Nodes []))

  abbrev pub FitsKeys : (K → K → Bool) → (K → ℕ) → List (Part K V) → KeysCall → Type 0
  FitsKeys eq hash parts c = FitsThere eq hash parts c ⊎ FitsNowhere parts c

  -- it has listed this key
  abbrev pub ListsIt : List (Part K V) → KeysCall → K → Type 0
  ListsIt parts c key = (p : Part K V) × (slice_get parts c.segment ≡ Some p)
      × (x n : ℕ) × (slice_get (listed_by c.table) x ≡ Some n) × (key_in p.nodes.items n ≡ Some key)

  -- it lists this key, if the key stays
  abbrev pub CoversIt : (K → K → Bool) → List (Part K V) → KeysCall → K → Type 0
  CoversIt eq parts c key = (p : Part K V) × (slice_get parts c.segment ≡ Some p) ×
      Covers eq (memory_at p) p.nodes.items key c.table

  -- how many steps it has left
  abbrev pub left_keys : (first : ℕ) → List (Part K V) → KeysCall → ℕ
  left_keys first parts c = option_map_or (λ p. left_in first (peak_at p) (memory_at p) c.table)
      (slice_get parts c.segment) 0

  -- the nodes of a segment; none where it isn't there
  abbrev pub nodes_of : List (Part K V) → (segment : ℕ) → List (Node K V)
  nodes_of parts segment = option_map_or (λ p. p.nodes.items) (slice_get parts segment) []

  -- the word that it lists next, where it lists one
  abbrev pub word_over : List (Part K V) → KeysCall → Option Word
  word_over parts c =
      option_map_or (λ p. word_next (memory_at p) c.table) (slice_get parts c.segment) None

  -- what a step of a call may rest on
  pub record CanList (eq : K → K → Bool) (hash : K → ℕ) (parts : List (Part K V))
      (first most len : ℕ) (c : KeysCall) : Type 0 where
    pub respects : (x y : K) → eq x y ≡ true → hash x ≡ hash y
    pub well : AreParts eq hash parts first most len
    pub fits : FitsKeys eq hash parts c
    pub going : IsGoing c.table

  -- calls that list keys, while others make their steps: they fit, have listed the same keys, and
  -- cover what they covered of the keys that were in
  -- the map
  pub record KeepsKeys (eq : K → K → Bool) (hash : K → ℕ) (old new : List (Part K V)) : Type 0 where
    pub fits : (c : KeysCall) → FitsKeys eq hash old c → FitsKeys eq hash new c
    pub lists : (c : KeysCall) (key : K) → FitsKeys eq hash old c → ListsIt new c key ↔ ListsIt old c key
    pub covers : (c : KeysCall) (key : K) → FitsKeys eq hash old c →
        segment_of (length old) (hash key) ≡ c.segment
        → IsSome (map_over eq hash old key) → CoversIt eq old c key → CoversIt eq new c key

  -- What a step of a call does to all segments: the map stays. It is nearer to its end, or has
  -- ended; what it lists anew was in the map, and a key that was
  -- there it goes on to cover. In a segment that isn't there it ends. All other calls fit.
  pub record WalksOver (eq : K → K → Bool) (hash : K → ℕ) (first : ℕ) (old : List (Part K V))
      (most len : ℕ) (before : KeysCall)
      (gives : Result Bool AllocError) (new : List (Part K V)) (after : KeysCall) : Type 0 where
    pub segment : after.segment ≡ before.segment
    pub well : AreParts eq hash new first most len
    pub long : length new ≡ length old
    pub map : SameMap (map_over eq hash old) (map_over eq hash new)
    pub fits : FitsKeys eq hash new after
    pub absent : length old ≤ before.segment → gives ≡ Ok true
    pub ended : IfOk gives (λ done. done ≡ is_ended after.table)
    pub nears : IfOk gives (λ done. done ≡ false → left_keys first new after < left_keys first old before)
    pub lists : IfOk gives (λ done. (key : K) → ListsIt new after key → ListsIt old before key ⊎
        IsSome (map_over eq hash old key))
    pub covers : IfOk gives (λ done. (key : K) → segment_of (length old) (hash key) ≡ before.segment
        → IsSome (map_over eq hash old key) → CoversIt eq old before key → CoversIt eq new after key)
    pub others : (c : BucketCall K V) → FitsParts eq hash old c → FitsParts eq hash new c
    pub keys : KeepsKeys eq hash old new
    pub adds : IfOk gives (λ done. listed_by after.table ≡ carried (listed_by before.table)
        (word_over old before) (node_next (word_over old before)))
    pub nodes : (i : ℕ) → nodes_of new i ≡ nodes_of old i
    pub err : OnErr gives ((after ≡ before) × (left_keys first new after ≡ left_keys first old before))

  -- the keys of these nodes, in their order
  abbrev pub keys_in : List (Node K V) → List ℕ → List K
  keys_in nodes ns = flat_map (λ n. option_to_list (key_in nodes n)) ns

  -- The keys that an ended call has listed: none twice, and each that it covers.
  pub record IsListing (eq : K → K → Bool) (parts : List (Part K V)) (c : KeysCall)
      (keys : List K) : Type 0 where
    pub differ : (x y : ℕ) (k l : K) → slice_get keys x ≡ Some k → slice_get keys y ≡ Some l →
        eq k l ≡ true → x ≡ y
    pub listed : (x : ℕ) (k : K) → slice_get keys x ≡ Some k → ListsIt parts c k
    pub covers : (key : K) → CoversIt eq parts c key → (x : ℕ) × (k : K) ×
        (slice_get keys x ≡ Some k) × (eq key k ≡ true)
