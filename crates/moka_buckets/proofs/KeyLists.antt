-- The list of a call is short, and of one segment's keys.
use Rattle.std.proofs.Common.{◌≡◌, ℕ, ◌+◌, ◌*◌, ◌≤◌, Bool, true, is_some, List, length, Option, Some, None, Result, Ok, Err, IfOk, inl, inr, refl, sym, ap, ◌∙◌, arith}
use Rattle.std.proofs.lemmas.Bool.{false≢true}
use Rattle.std.specs.List.{slice_get}
use Rattle.std.specs.Option.{option_map}
use Rattle.std.specs.declared.alloc.AllocError.{AllocError}
use Rattle.moka_words.specs.Effect.{Memory}
use Rattle.moka_growth.specs.Calls.{Step, Going, Decided}
use Rattle.moka_growth.specs.Left.{IsShort}
use Rattle.moka_buckets.specs.declared.node.Node.{Node}
use Rattle.moka_buckets.specs.declared.part.Part.{Part}
use Rattle.moka_buckets.specs.declared.keys_call.KeysCall.{KeysCall}
use Rattle.moka_buckets.specs.Keys.{FitsKeys, IsListing, ListsIt, keys_in, nodes_of}
use Rattle.moka_buckets.specs.Parts.{memory_at, peak_at, segment_of, AreParts}
use Rattle.moka_buckets.specs.Walks.{AreFew, WalksOn, is_ended, listed_by}
use Rattle.moka_buckets.proofs.Few.{few_keys_in}
use Rattle.moka_buckets.proofs.Keyed.{listing_by}

some_one : {A : Type 0} {x y : A} → Some x ≡ Some y → x ≡ y
some_one e = cc

no_item : {A : Type 0} {x : A} → None ≡ Some x → ⊥
no_item e = cc

-- arrays are short, so few nodes are
few_nodes : (m : Memory) (first peak : ℕ) (ns : List ℕ) → IsShort first peak m → AreFew m ns → length ns ≤ first + 3 * peak
few_nodes m first peak ns short (inl none) = let no : length ns ≡ 0 = ap (λ xs. length xs) none in omega (arith, no)
few_nodes m first peak ns short (inr (place, a, there, few)) = let long = short.lengths place a there in omega (arith, few, long)

module _ {K V : Type 0} (eq : K → K → Bool) (hash : K → ℕ) (first most len : ℕ) (parts : List (Part K V)) (well : AreParts eq hash parts first most len)
    (c : KeysCall) (fits : FitsKeys eq hash parts c) where
  few_by : (m : Memory) (nodes : List (Node K V)) (peak : ℕ) (s : Step) → IsShort first peak m → peak ≤ most → is_ended s ≡ true → WalksOn eq hash m nodes s →
      length (listed_by s) ≤ first + 3 * most
  few_by m nodes peak (Going d) short more ended walks = absurd (false≢true ended)
  few_by m nodes peak (Decided e) short more ended walks = let few = few_nodes m first peak (listed_by (Decided e)) short walks.few in omega (arith, few, more)

  few_listed : is_ended c.table ≡ true → length (listed_by c.table) ≤ first + 3 * most
  few_listed ended = elim fits [
    | inl f ↦ let is = well.each c.segment f.part f.there in
        few_by (memory_at f.part) f.part.nodes.items (peak_at f.part) c.table is.well.short is.few ended f.walks
    | inr f ↦ elim f.empty [
      | inl going ↦ let no : length (listed_by c.table) ≡ 0 = ap (λ s. length (listed_by s)) going in omega (arith, no)
      | inr done ↦ let no : length (listed_by c.table) ≡ 0 = ap (λ s. length (listed_by s)) done in omega (arith, no)
    ]
  ]

  few_keys : (keys : List K) → is_ended c.table ≡ true → keys ≡ keys_in (nodes_of parts c.segment) (listed_by c.table) → length keys ≤ first + 3 * most
  few_keys keys ended is =
      let same : length keys ≡ length (keys_in (nodes_of parts c.segment) (listed_by c.table)) = ap (λ xs. length xs) is in
      let short = few_keys_in (nodes_of parts c.segment) (listed_by c.table) in
      let few = few_listed ended in
      omega (arith, same, short, few)

  -- a key that was listed belongs to the segment
  pub own_key : (key : K) → ListsIt parts c key → segment_of (length parts) (hash key) ≡ c.segment
  own_key key (p, there, x, n, at, is) = by (slice_get p.nodes.items n) refl is
    where
      by : (o : Option (Node K V)) → slice_get p.nodes.items n ≡ o → option_map (λ node. node.key) o ≡ Some key → segment_of (length parts) (hash key) ≡ c.segment
      by None e f = absurd (no_item f)
      by (Some node) e f = let part = well.each c.segment p there in
          ap (λ k. segment_of (length parts) (hash k)) (sym (some_one f)) ∙
          (ap (segment_of (length parts)) (sym (part.well.hashed n node e)) ∙ part.own n node e)

  pub few_of : (X : Type 0) (items : X → List K) (r : Result (Option X) AllocError) → IfOk r (λ keys. is_some keys ≡ is_ended c.table) →
      IfOk r (λ keys. (list : List K) → option_map items keys ≡ Some list → list ≡ keys_in (nodes_of parts c.segment) (listed_by c.table)) →
      IfOk r (λ keys. (list : List K) → option_map items keys ≡ Some list → length list ≤ first + 3 * most)
  few_of X items (Err e) ended listed = tt
  few_of X items (Ok None) ended listed = λ list e. absurd (no_item e)
  few_of X items (Ok (Some v)) ended listed = λ list e. few_keys list (sym ended) (listed list e)

  pub own_of : (X : Type 0) (items : X → List K) (r : Result (Option X) AllocError) →
      IfOk r (λ keys. (list : List K) → option_map items keys ≡ Some list → IsListing eq parts c list) →
      IfOk r (λ keys. (list : List K) → option_map items keys ≡ Some list → (x : ℕ) (key : K) → slice_get list x ≡ Some key →
      segment_of (length parts) (hash key) ≡ c.segment)
  own_of X items (Err e) listing = tt
  own_of X items (Ok keys) listing = λ list e x key at. own_key key ((listing list e).listed x key at)

  -- the keys of a call that has just ended
  pub few_at : (r : Result Bool AllocError) → IfOk r (λ done. done ≡ is_ended c.table) →
      IfOk r (λ done. done ≡ true → length (keys_in (nodes_of parts c.segment) (listed_by c.table)) ≤ first + 3 * most)
  few_at (Err e) ended = tt
  few_at (Ok done) ended = λ is. few_keys (keys_in (nodes_of parts c.segment) (listed_by c.table)) (sym ended ∙ is) refl

  pub listing_at : (r : Result Bool AllocError) → IfOk r (λ done. done ≡ is_ended c.table) →
      IfOk r (λ done. done ≡ true → IsListing eq parts c (keys_in (nodes_of parts c.segment) (listed_by c.table)))
  listing_at (Err e) ended = tt
  listing_at (Ok done) ended = λ is. listing_by eq hash parts c fits (sym ended ∙ is) (keys_in (nodes_of parts c.segment) (listed_by c.table)) refl
