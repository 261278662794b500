-- The keys of all segments, as the list of one part.
use Rattle.std.proofs.Common.{◌≡◌, ◌≢◌, ◌⊎◌, ℕ, ◌+◌, ◌*◌, ◌-◌, ◌≤◌, min, Bool, true, if◌then◌else◌, List, [], ◌∷◌, ◌++◌, length, Option, None, Some, IsSome, is_some, suc, inl, inr, refl, sym, ap, subst, ◌∙◌, arith}
use Rattle.std.proofs.lemmas.List.{length-append}
use Rattle.std.proofs.lemmas.Map.Made.{is_some-lookup}
use Rattle.std.proofs.lemmas.Map.Views.{All-keys_from_lookup}
use Rattle.std.specs.Cmp.{IsEquivalence}
use Rattle.std.proofs.lemmas.Bool.{cases_eq}
use Rattle.std.proofs.lemmas.List.Elements.{All-nil}
use Rattle.std.specs.Hash.{HashWrites}
use Rattle.std.specs.List.{fold, slice_get, IsDistinct}
use Rattle.std.specs.declared.hash.Hasher as hasher
use Rattle.std.specs.declared.hash.BuildHasher as builder
use Rattle.std.specs.Map.{keys_of}
use Rattle.std.specs.Option.{option_map, option_to_list}
use Rattle.moka_hist.specs.declared.records.Stored.{Stored}
use Rattle.moka_words.specs.declared.words.Word.{Word}
use Rattle.moka_words.specs.Words.{stored_in}
use Rattle.moka_words.specs.Layout.{stored_nodes}
use Rattle.moka_words.specs.Effect.{root, words_of}
use Rattle.moka_table.specs.Map.{IsList, Pairs, longest}
use Rattle.moka_buckets.specs.declared.node.Node.{Node}
use Rattle.moka_buckets.specs.declared.part.Part.{Part}
use Rattle.moka_buckets.specs.Listed.{listed_in}
use Rattle.moka_buckets.specs.Nodes.{pair_at}
use Rattle.moka_buckets.specs.Parts.{keys_at, listed_over, listed_part, map_over, memory_at, AreParts}
use Rattle.moka_buckets.specs.Parts as parts
use Rattle.moka_buckets.specs.Hashing.{hash_in}
use Rattle.moka_buckets.specs.Ops.{is_joined, part_for, segment_parts}
use Rattle.moka_buckets.specs.Views.{Buckets, count_of, first_of, map_in, peak_of, segment_for}
use Rattle.moka_buckets.proofs.Joining.{keys_over}
use Rattle.moka_buckets.proofs.Listings.{entries}
use Rattle.moka_buckets.proofs.OwnKeys.{keys_same}

-- words list at most one pair for each node that they store
few_in : {K V : Type 0} (nodes : List (Node K V)) (words : List Word) → length (listed_in nodes words) ≤ length (stored_nodes words)
few_in nodes [] = omega arith
few_in {K} {V} nodes (w ∷ ws) = by (stored_in w) (few_in nodes ws)
  where
    pair : (x : Option (Node K V)) → length (listed_in nodes ws) ≤ length (stored_nodes ws) →
        length (option_to_list (option_map {U = K × Stored V} (λ node. (node.key, node.stored)) x) ++ listed_in nodes ws) ≤ suc (length (stored_nodes ws))
    pair None few = omega (arith, few)
    pair (Some node) few = omega (arith, few)

    by : (o : Option ℕ) → length (listed_in nodes ws) ≤ length (stored_nodes ws) →
        length (option_to_list (pair_at nodes o) ++ listed_in nodes ws) ≤ length (option_to_list o ++ stored_nodes ws)
    by None few = few
    by (Some n) few = pair (slice_get nodes n) few

few_over : {K V : Type 0} (ps : List (Part K V)) →
    ((i : ℕ) (p : Part K V) → slice_get ps i ≡ Some p → length (listed_part p) ≤ keys_at p) → length (listed_over ps) ≤ parts.keys_of ps
few_over [] few = omega arith
few_over (p ∷ ps) few =
    let here = few 0 p refl in
    let rest = few_over ps (λ i q e. few (suc i) q e) in
    let both : length (listed_part p ++ listed_over ps) ≡ length (listed_part p) + length (listed_over ps) = length-append (listed_part p) (listed_over ps) in
    omega (arith, here, rest, both)

module _ {K V : Type 0} (eq : K → K → Bool) (laws : IsEquivalence eq) (hash : K → ℕ) (respects : (x y : K) → eq x y ≡ true → hash x ≡ hash y)
    (ps : List (Part K V)) (first most len : ℕ) (well : AreParts eq hash ps first most len) (enough : len ≤ most) where
  few_keys : length (keys_of (listed_over ps)) ≤ first + 3 * most
  few_keys =
      let few = few_over ps (λ i p e.
      let is = well.each i p e in
      let counted = is.well.counted in
      let short = few_in p.nodes.items (words_of (memory_at p) (root (memory_at p))) in
      omega (arith, counted, short)) in
      let counted = well.counted in
      let same = mapped (listed_over ps) in
      omega (arith, few, counted, same, enough)
    where
      mapped : (xs : List (K × Stored V)) → length (keys_of xs) ≡ length xs
      mapped [] = refl
      mapped (x ∷ xs) = ap suc (mapped xs)

  -- the keys of all segments are a list of the part that they are
  pub whole_list : (OfPart Listed Covers : K → Type 0) → ((q : K) → OfPart q) → (keys : List K) → keys ≡ keys_of (listed_over ps) →
      IsList eq (map_over eq hash ps) OfPart Listed Covers (first + 3 * most) keys
  whole_list OfPart Listed Covers every keys is = let both = keys_over eq hash respects ps first most len well in subst (λ ks. IsList eq (map_over eq hash ps) OfPart Listed Covers (first + 3 * most) ks)
      (keys_same (listed_over ps) ∙ sym is) (record {
        distinct = both.0;
        of_part = All-keys_from_lookup laws OfPart (entries (listed_over ps)) (λ q has. every q);
        within = All-keys_from_lookup laws (λ q. Listed q ⊎ (IsSome (map_over eq hash ps q) × OfPart q)) (entries (listed_over ps))
            (λ q has. inr (subst IsSome (both.1 q) has, every q));
        whole = λ q at has covers. sym (is_some-lookup (eq q) (entries (listed_over ps))) ∙ (ap is_some (both.1 q) ∙ has);
        few = subst (λ ks. length ks ≤ first + 3 * most) (sym (keys_same (listed_over ps))) few_keys;
      })

-- a part that isn't there has no key
none_listed : {K V : Type 0} (eq : K → K → Bool) (map : Pairs K V) (OfPart Listed Covers : K → Type 0) (most : ℕ) → ((q : K) → OfPart q → ⊥) →
    IsList eq map OfPart Listed Covers most []
unfolding IsDistinct
none_listed eq map OfPart Listed Covers most absent = record {
  distinct = tt;
  of_part = All-nil OfPart;
  within = All-nil _;
  whole = λ q at has covers. absurd (absent q at);
  few = omega arith;
}

-- of a table of one part
pub whole_table : {K V S H : Type 0} (b : builder.Ghosts S H) (h : hasher.Ghosts H) (eq : K → K → Bool) (laws : IsEquivalence eq) (input : K → HashWrites)
    (respects : (x y : K) → eq x y ≡ true → input x ≡ input y) (t : Buckets K V S)
    (well : AreParts eq (hash_in b h input t.hasher) t.parts (first_of t) (peak_of t) (count_of t)) (joined : is_joined t ≡ true) (part : ℕ) (keys : List K) →
    (part ≡ 0 → keys ≡ keys_of (listed_over t.parts)) → (part ≢ 0 → keys ≡ []) → (Listed Covers : K → Type 0) →
    IsList eq (map_in b h eq input t) (λ q. part_for b h eq input t q ≡ part) Listed Covers (longest (first_of t) (peak_of t)) keys
whole_table {K} b h eq laws input respects t well joined part keys all none Listed Covers = elim (cases_eq part 0) [
  | inl d ↦ whole_list eq laws (hash_in b h input t.hasher) (λ x y e. ap (λ w. h.finish (fold h.write (b.build_hasher t.hasher) w)) (respects x y e))
      t.parts (first_of t) (peak_of t) (count_of t) well (omega arith) (λ q. part_for b h eq input t q ≡ part) Listed Covers
      (λ q. one_part q ∙ sym d) keys (all d)
  | inr d ↦ subst (λ ks. IsList eq (map_in b h eq input t) (λ q. part_for b h eq input t q ≡ part) Listed Covers (longest (first_of t) (peak_of t)) ks)
      (sym (none d)) (none_listed eq (map_in b h eq input t) (λ q. part_for b h eq input t q ≡ part) Listed Covers (longest (first_of t) (peak_of t))
      (λ q at. d (sym at ∙ one_part q)))
]
  where
    one_part : (q : K) → part_for b h eq input t q ≡ 0
    one_part q = ap (λ j. if j then 0 else min (segment_for b h eq input t q) (segment_parts t - 1)) joined
