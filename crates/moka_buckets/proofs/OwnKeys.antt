-- The keys that the root of a segment stores are those of the map.
use Rattle.std.proofs.Common.{◌≡◌, ◌<◌, ℕ, ◌+◌, Bool, true, false, cond, List, [], ◌∷◌, ◌++◌, length, drop, Option, Some, None, is_some, refl, sym, ap, subst, ◌∙◌, add-one, ◌||◌}
use Rattle.std.proofs.Math.Seq.{drop-cons}
use Rattle.std.proofs.lemmas.List.{map-append}
use Rattle.std.specs.List.{flat_map, slice_get, IsDistinct, AllByRecursion}
use Rattle.std.specs.Map.{keys_of, lookup}
use Rattle.std.specs.Option.{option_map, option_map_or, option_to_list}
use Rattle.std.specs.Set.{is_member}
use Rattle.moka_hist.specs.declared.records.Stored.{Stored}
use Rattle.moka_words.specs.declared.words.Word.{Word}
use Rattle.moka_words.specs.declared.words.Word.TheVariants.{Unset}
use Rattle.moka_words.specs.Words.{stored_in, word_at}
use Rattle.moka_words.specs.Effect.{root, words_of}
use Rattle.moka_buckets.specs.declared.node.Node.{Node}
use Rattle.moka_buckets.specs.declared.part.Part.{Part}
use Rattle.moka_buckets.specs.Nodes.{pair_at}
use Rattle.moka_buckets.specs.Asking.{ListsSegment}
use Rattle.moka_buckets.specs.Listed.{keys_at, listed_in}
use Rattle.moka_buckets.specs.Parts.{AreParts, IsPart, listed_over, listed_part, map_at, map_over, memory_at, peak_at, segment_of}
use Rattle.moka_buckets.proofs.Listings.{entries, lookup_listed, all_listed, listed_distinct}

pub key_first : {K V : Type 0} (o : Option (K × V)) (k : K) (more : List (K × V)) → Some k ≡ option_map (λ p. p.0) o → keys_of (option_to_list o ++ more) ≡ k ∷ keys_of more
key_first None k more e = absurd cc
key_first (Some p) k more e = let same : p.0 ≡ k = cc in ap (λ x. x ∷ keys_of more) same

pub key_none : {K V : Type 0} (o : Option (K × V)) (more : List (K × V)) → None ≡ option_map (λ p. p.0) o → keys_of (option_to_list o ++ more) ≡ keys_of more
key_none None more e = refl
key_none (Some p) more e = absurd cc

-- the keys from a word on
pub keys_from : {K V : Type 0} (nodes : List (Node K V)) (words : List Word) (i : ℕ) → i < length words →
    keys_of (listed_in nodes (drop i words)) ≡ keys_of (option_to_list (pair_at nodes (stored_in (word_at words i))) ++ listed_in nodes (drop (i + 1) words))
keys_from nodes words i below = rw add-one (ap (λ x. keys_of (listed_in nodes x)) (drop-cons words i Unset below))

module _ {K V : Type 0} where
  pub keys_same : (ps : List (K × Stored V)) → keys_of (entries ps) ≡ keys_of ps
  keys_same [] = refl
  keys_same (p ∷ ps) = ap (λ ks. p.0 ∷ ks) (keys_same ps)

-- what is looked up is a member
member_found : {K A : Type 0} (eq : K → K → Bool) (q : K) (ps : List (K × A)) → is_member eq (keys_of ps) q ≡ is_some (lookup (eq q) ps)
member_found eq q [] = refl
member_found eq q (p ∷ ps) = by (eq q p.0) (member_found eq q ps)
  where
    by : (b : Bool) → is_member eq (keys_of ps) q ≡ is_some (lookup (eq q) ps) → (b || is_member eq (keys_of ps) q) ≡ is_some (cond b (Some p.1) (lookup (eq q) ps))
    by true e = refl
    by false e = e

module _ {K V : Type 0} (eq : K → K → Bool) (hash : K → ℕ) (parts : List (Part K V)) (first most len : ℕ) (well : AreParts eq hash parts first most len) where
  -- a segment lists its keys of the map
  pub lists_segment : (i : ℕ) (p : Part K V) → slice_get parts i ≡ Some p →
      ListsSegment eq (λ k. segment_of (length parts) (hash k)) (map_over eq hash parts) i (keys_of (listed_part p))
  lists_segment i p there =
      let is : IsPart eq hash (length parts) first most i p = well.each i p there in
      let words = words_of (memory_at p) (root (memory_at p)) in
      record {
        distinct = subst (λ ks. IsDistinct eq ks) (keys_same (listed_part p)) (listed_distinct eq hash (memory_at p) p.nodes.items first (peak_at p) is.well);
        own = subst (λ ks. AllByRecursion (λ k. segment_of (length parts) (hash k) ≡ i) ks) (keys_same (listed_part p))
            (all_listed eq p.nodes.items (λ k. segment_of (length parts) (hash k) ≡ i) words
            (λ j m node d e. ap (segment_of (length parts)) (sym (is.well.hashed m node e)) ∙ is.own m node e));
        listed = λ q at_i.
            ap (λ ks. is_member eq ks q) (sym (keys_same (listed_part p))) ∙
            (member_found eq q (entries (listed_part p)) ∙
            ap is_some (lookup_listed eq p.nodes.items q words ∙
            sym (ap (λ o. option_map_or (λ x. map_at eq x q) o None) (ap (slice_get parts) at_i ∙ there))));
      }

-- the keys of the words are those of the pairs that they list
pub keys_listed : {K V : Type 0} (nodes : List (Node K V)) (words : List Word) → flat_map (keys_at nodes) words ≡ keys_of (listed_in nodes words)
keys_listed {K} {V} nodes [] = refl
keys_listed {K} {V} nodes (w ∷ ws) = by (pair_at nodes (stored_in w)) (keys_listed nodes ws)
  where
    by : (o : Option (K × Stored V)) → flat_map (keys_at nodes) ws ≡ keys_of (listed_in nodes ws) →
        option_to_list (option_map (λ p. p.0) o) ++ flat_map (keys_at nodes) ws ≡ keys_of (option_to_list o ++ listed_in nodes ws)
    by None e = e
    by (Some p) e = ap (λ ks. p.0 ∷ ks) e

-- and those of all segments are the keys of the pairs that they list
pub keys_flat : {K V : Type 0} (ps : List (Part K V)) → flat_map (λ p. keys_of (listed_part p)) ps ≡ keys_of (listed_over ps)
keys_flat [] = refl
keys_flat (p ∷ ps) = ap (λ ks. keys_of (listed_part p) ++ ks) (keys_flat ps) ∙ sym (map-append (λ x. x.0) (listed_part p) (listed_over ps))
