-- Segments that were just made.
use Rattle.std.proofs.Common.{◌≡◌, ◌⊎◌, ℕ, ◌+◌, ◌<◌, ◌≤◌, Bool, List, [], ◌∷◌, ◌++◌, length, replicate, Option, Some, None, zero, suc, inl, inr, refl, sym, ap, subst, ◌∙◌, arith}
use Rattle.std.proofs.Common.{length-append}
use Rattle.std.proofs.lemmas.List.{length-replicate}
use Rattle.std.specs.Int.{IsPowerOfTwo}
use Rattle.std.specs.List.{find, slice_get}
use Rattle.std.specs.Option.{option_map, option_map_or}
use Rattle.moka_words.specs.declared.words.Word.{Word}
use Rattle.moka_words.specs.declared.words.Word.TheVariants.{Empty}
use Rattle.moka_words.specs.Layout.{stored_nodes}
use Rattle.moka_words.specs.Effect.{array_at, array_before, words_of}
use Rattle.moka_growth.specs.Maps.{present_nodes}
use Rattle.moka_growth.specs.Sound.{IsRoot, IsSound}
use Rattle.moka_growth.proofs.Making.{none_is_sound, one_is_sound, empty_is_root}
use Rattle.moka_buckets.specs.declared.array.Arrays.{Arrays}
use Rattle.moka_buckets.specs.declared.part.Part.{Part}
use Rattle.moka_pairs.specs.Keys.{hash_by, same_by, mine_by, own_by}
use Rattle.moka_buckets.specs.Nodes.{key_in, pair_at}
use Rattle.moka_buckets.specs.Arrays.{memory_of, words_in, ArePlaced}
use Rattle.moka_buckets.proofs.Placed.{get-back}
use Rattle.moka_buckets.specs.Building.{HasNone, HasRoot, IsFresh, AreFresh}
use Rattle.moka_buckets.specs.Parts.{keys_of, map_over, map_at, segment_of, memory_at, IsPart, AreParts}

no_item : {A : Type 0} {x : A} → None ≡ Some x → ⊥
no_item e = cc

one_item : {A : Type 0} {x y : A} → Some x ≡ Some y → x ≡ y
one_item e = cc

-- no array has a place, or one the first
pub none_placed : (s : Arrays) → HasNone s → ArePlaced s
none_placed s none place a e = absurd (no_item (ap (λ xs. slice_get xs place) (sym none.arrays) ∙ e))

pub first_at : (place a : ℕ) → slice_get (0 ∷ []) place ≡ Some a → (place ≡ 0) × (a ≡ 0)
first_at zero a e = (refl, sym (one_item e))
first_at (suc place) a e = absurd (no_item e)

pub root_placed : (words : List Word) (s : Arrays) → HasRoot words s → ArePlaced s
root_placed words s has place a e =
    let is = first_at place a (ap (λ xs. slice_get xs place) (sym has.arrays) ∙ e) in
    ap (λ n. option_map (λ array. array.place) (slice_get s.all.items n)) is.1 ∙ (has.placed ∙ ap Some (sym is.0))

-- empty words store nothing
empty_stores : (size : ℕ) → stored_nodes (replicate size Empty) ≡ []
empty_stores zero = refl
empty_stores (suc size) = empty_stores size

-- the nodes that are present in a memory with no array, and with a root alone
pub none_present : (s : Arrays) → HasNone s → present_nodes (memory_of s) ≡ []
none_present s none = ap (λ r. stored_nodes (words_of (memory_of s) (array_before (memory_of s) r))) none.rooted

pub root_present : (words : List Word) (s : Arrays) → HasRoot words s → present_nodes (memory_of s) ≡ stored_nodes words
root_present words s has =
    ap (λ r. stored_nodes (words_of (memory_of s) (array_before (memory_of s) r))) has.rooted
    ∙ (ap (λ xs. stored_nodes (words_of (memory_of s) (slice_get xs 0))) has.arrays
    ∙ ap stored_nodes has.words_are)

-- one segment more
pub fresh_more : {K V : Type 0} (count size : ℕ) (parts more : List (Part K V)) (p : Part K V) → AreFresh count size parts → IsFresh size p →
    more ≡ parts ++ p ∷ [] → AreFresh (count + 1) size more
fresh_more {K} {V} count size parts more p fresh one is = record {
  many = let old = fresh.many in let long = length-append parts (p ∷ []) in let same = ap (λ xs. length xs) is in omega (arith, old, long, same);
  each = λ i q e. elim (get-back parts p q i (ap (λ xs. slice_get xs i) (sym is) ∙ e)) [
    | inl d ↦ fresh.each i q d
    | inr d ↦ subst (λ x. IsFresh size x) (sym d.1) one
  ];
}

pub fresh_none : {K V : Type 0} (size : ℕ) (parts : List (Part K V)) → parts ≡ [] → AreFresh 0 size parts
fresh_none size parts none = record {
  many = ap (λ xs. length xs) none;
  each = λ i p e. absurd (no_item (ap (λ xs. slice_get xs i) (sym none) ∙ e));
}

module _ {K V : Type 0} (eq : K → K → Bool) (hash : K → ℕ) (first size : ℕ) (least : 128 ≤ first) (short : size ≤ first) where
  fresh_present : (p : Part K V) → IsFresh size p → present_nodes (memory_at p) ≡ []
  fresh_present p fresh = elim fresh.begins [
    | inl none ↦ none_present p.arrays none.1
    | inr has ↦ root_present (replicate size Empty) p.arrays has.1 ∙ empty_stores size
  ]

  fresh_placed : (p : Part K V) → IsFresh size p → ArePlaced p.arrays
  fresh_placed p fresh = elim fresh.begins [
    | inl none ↦ none_placed p.arrays none.1
    | inr has ↦ root_placed (replicate size Empty) p.arrays has.1
  ]

  fresh_sound : (p : Part K V) → IsFresh size p → (keys : ℕ → Option K) → IsSound (hash_by hash keys) (same_by eq keys) (mine_by keys) (memory_at p)
  fresh_sound p fresh keys = by fresh.begins
    where
      by : ((size ≡ 0) × HasNone p.arrays) ⊎ (IsPowerOfTwo size × HasRoot (replicate size Empty) p.arrays) →
          IsSound (hash_by hash keys) (same_by eq keys) (mine_by keys) (memory_at p)
      by (inl (small, none)) = none_is_sound (hash_by hash keys) (same_by eq keys) (mine_by keys) (memory_at p) none.arrays none.rooted
      by (inr (power, has)) = one_is_sound (hash_by hash keys) (same_by eq keys) (mine_by keys) (memory_at p) 0 has.arrays has.rooted
          (let one = has.numbered in omega (arith, one))
          (subst (λ ws. IsPowerOfTwo (length ws)) (sym has.words_are) (subst (λ n. IsPowerOfTwo n) (sym (length-replicate size Empty)) power))
          (subst (λ ws. IsRoot (hash_by hash keys) (same_by eq keys) (mine_by keys) ws) (sym has.words_are)
          (empty_is_root (hash_by hash keys) (same_by eq keys) (mine_by keys) size))

  fresh_short : (p : Part K V) → IsFresh size p → (place a : ℕ) → array_at (memory_at p) place ≡ Some a → length (words_in p.arrays.all.items a) ≤ first
  fresh_short p fresh place a e = by fresh.begins
    where
      by : ((size ≡ 0) × HasNone p.arrays) ⊎ (IsPowerOfTwo size × HasRoot (replicate size Empty) p.arrays) → length (words_in p.arrays.all.items a) ≤ first
      by (inl (small, none)) = absurd (no_item (ap (λ xs. slice_get xs place) (sym none.arrays) ∙ e))
      by (inr (power, has)) =
          let is = (first_at place a (ap (λ xs. slice_get xs place) (sym has.arrays) ∙ e)).1 in
          let long = ap (λ n. length (words_in p.arrays.all.items n)) is ∙ (ap (λ ws. length ws) has.words_are ∙ length-replicate size Empty) in
          omega (arith, long, short)

  fresh_part : (count most i : ℕ) (p : Part K V) → IsFresh size p → IsPart eq hash count first most i p
  fresh_part count most i p fresh = record {
    placed = fresh_placed p fresh;
    well = record {
      sound = λ keys agrees. fresh_sound p fresh keys;
      hashed = λ n node there. absurd (no_item (ap (λ xs. slice_get xs n) (sym fresh.nodes) ∙ there));
      counted = fresh.len ∙ sym (ap (λ xs. length xs) (fresh_present p fresh));
      short = record {
        least = least;
        lengths = λ place a e. let few = fresh_short p fresh place a e in omega (arith, few);
        keys = let none = ap (λ xs. length xs) (fresh_present p fresh) in omega (arith, none);
      };
    };
    own = λ n node there. absurd (no_item (ap (λ xs. slice_get xs n) (sym fresh.nodes) ∙ there));
    few = let a = fresh.len in let b = fresh.peak in omega (arith, a, b);
  }

  fresh_keys : (parts : List (Part K V)) → ((i : ℕ) (p : Part K V) → slice_get parts i ≡ Some p → IsFresh size p) → keys_of parts ≡ 0
  fresh_keys [] each = refl
  fresh_keys (p ∷ ps) each = let a = (each 0 p refl).len in let b = fresh_keys ps (λ i. each (suc i)) in omega (arith, a, b)

  pub fresh_parts : (count most : ℕ) (parts : List (Part K V)) → 0 < count → AreFresh count size parts → AreParts eq hash parts first most 0
  fresh_parts count most parts some fresh = record {
    each = λ i p there. fresh_part (length parts) most i p (fresh.each i p there);
    counted = sym (fresh_keys parts fresh.each);
    some = let many = fresh.many in omega (arith, many, some);
  }

  pub fresh_map : (count : ℕ) (parts : List (Part K V)) → AreFresh count size parts → (q : K) → map_over eq hash parts q ≡ None
  fresh_map count parts fresh q = by (slice_get parts (segment_of (length parts) (hash q))) refl
    where
      by : (o : Option (Part K V)) → slice_get parts (segment_of (length parts) (hash q)) ≡ o → option_map_or (λ p. map_at eq p q) o None ≡ None
      by None e = refl
      by (Some p) e = ap (λ xs. pair_at p.nodes.items (find (own_by eq (key_in p.nodes.items) q) xs))
          (fresh_present p (fresh.each (segment_of (length parts) (hash q)) p e))
