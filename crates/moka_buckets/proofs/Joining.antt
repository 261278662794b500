-- The pairs that all segments list are those of the table's map.
use Rattle.std.proofs.Common.{◌≡◌, ◌≢◌, ℕ, ◌+◌, ◌≤◌, Bool, true, false, cond, List, [], ◌∷◌, ◌++◌, length, Some, None, zero, suc, refl, sym, ap, subst, ◌∙◌, arith}
use Rattle.std.specs.Option.{option_map_or}
use Rattle.std.specs.List.{slice_get, IsDistinct, AllByRecursion}
use Rattle.std.specs.Map.{lookup, keys_of}
use Rattle.moka_hist.specs.declared.records.Stored.{Stored}
use Rattle.moka_words.specs.Effect.{root, words_of}
use Rattle.moka_table.specs.Map.{ListsPairs}
use Rattle.moka_buckets.specs.declared.part.Part.{Part}
use Rattle.moka_buckets.specs.Parts.{map_at, map_over, listed_part, listed_over, memory_at, segment_of, IsPart, AreParts}
use Rattle.moka_buckets.proofs.Listings.{entries, values_entries, lookup_listed, all_listed, listed_distinct}

one_item : {A : Type 0} {x y : A} → Some x ≡ Some y → x ≡ y
one_item d = cc

module _ {K V : Type 0} where
  joined : (xs ys : List (K × Stored V)) → keys_of (entries (xs ++ ys)) ≡ keys_of (entries xs) ++ keys_of (entries ys)
  joined [] ys = refl
  joined (x ∷ xs) ys = ap (λ ks. x.0 ∷ ks) (joined xs ys)

module _ {K : Type 0} where
  all_joined : (P : K → Type 0) (ks ls : List K) → AllByRecursion P ks → AllByRecursion P ls → AllByRecursion P (ks ++ ls)
  all_joined P [] ls a b = b
  all_joined P (k ∷ ks) ls a b = (a.0, all_joined P ks ls a.1 b)

  all_mapped : (P Q : K → Type 0) → ((k : K) → P k → Q k) → (ks : List K) → AllByRecursion P ks → AllByRecursion Q ks
  all_mapped P Q f [] a = tt
  all_mapped P Q f (k ∷ ks) a = (f k a.0, all_mapped P Q f ks a.1)

  -- lists without a key twice, whose keys lie apart
  distinct_joined : (eq : K → K → Bool) (P Q : K → Type 0) → ((k l : K) → P k → Q l → eq k l ≡ false) → (ks ls : List K) → AllByRecursion P ks → AllByRecursion Q ls →
      IsDistinct eq ks → IsDistinct eq ls → IsDistinct eq (ks ++ ls)
  unfolding IsDistinct
  distinct_joined eq P Q apart [] ls a b d e = e
  distinct_joined eq P Q apart (k ∷ ks) ls a b d e = (
    all_joined (λ y. eq k y ≡ false) ks ls d.0 (all_mapped Q (λ y. eq k y ≡ false) (λ l. apart k l a.0) ls b),
    distinct_joined eq P Q apart ks ls a.1 b d.1 e,
  )

module _ {K V : Type 0} (eq : K → K → Bool) (hash : K → ℕ) (respects : (x y : K) → eq x y ≡ true → hash x ≡ hash y) where
  -- a key that is not listed isn't found
  not_listed : (q : K) (ps : List (K × Stored V)) → AllByRecursion (λ k. eq q k ≡ false) (keys_of (entries ps)) → lookup (eq q) (entries ps) ≡ None
  not_listed q [] a = refl
  not_listed q (p ∷ ps) a = ap (λ b. cond b (Some p) (lookup (eq q) (entries ps))) a.0 ∙ not_listed q ps a.1

  lookup_first : (q : K) (xs ys : List (K × Stored V)) → lookup (eq q) (entries ys) ≡ None → lookup (eq q) (entries (xs ++ ys)) ≡ lookup (eq q) (entries xs)
  lookup_first q [] ys none = none
  lookup_first q (x ∷ xs) ys none = ap (λ o. cond (eq q x.0) (Some x) o) (lookup_first q xs ys none)

  lookup_last : (q : K) (xs ys : List (K × Stored V)) → lookup (eq q) (entries xs) ≡ None → lookup (eq q) (entries (xs ++ ys)) ≡ lookup (eq q) (entries ys)
  lookup_last q [] ys none = refl
  lookup_last q (x ∷ xs) ys none = by (eq q x.0) none (lookup_last q xs ys)
    where
      by : (b : Bool) → cond b (Some x) (lookup (eq q) (entries xs)) ≡ None → (lookup (eq q) (entries xs) ≡ None → lookup (eq q) (entries (xs ++ ys)) ≡ lookup (eq q) (entries ys)) →
          cond b (Some x) (lookup (eq q) (entries (xs ++ ys))) ≡ lookup (eq q) (entries ys)
      by true e rest = absurd (cc e)
      by false e rest = rest e

  module _ (count first most : ℕ) where
    -- the segment lists keys of its own alone
    own_keys : (i : ℕ) (p : Part K V) → IsPart eq hash count first most i p → AllByRecursion (λ k. segment_of count (hash k) ≡ i) (keys_of (entries (listed_part p)))
    own_keys i p is = all_listed eq p.nodes.items (λ k. segment_of count (hash k) ≡ i) (words_of (memory_at p) (root (memory_at p)))
        (λ j m node d e. ap (segment_of count) (sym (is.well.hashed m node e)) ∙ is.own m node e)

    -- the segments from the number b on
    module _ (q : K) where
      found : (i : ℕ) (p : Part K V) → IsPart eq hash count first most i p → segment_of count (hash q) ≢ i → lookup (eq q) (entries (listed_part p)) ≡ None
      found i p is other = not_listed q (listed_part p) (all_mapped (λ k. segment_of count (hash k) ≡ i) (λ k. eq q k ≡ false) away (keys_of (entries (listed_part p))) (own_keys i p is))
        where
          away : (k : K) → segment_of count (hash k) ≡ i → eq q k ≡ false
          away k e = by (eq q k) refl
            where
              by : (b : Bool) → eq q k ≡ b → eq q k ≡ false
              by false d = d
              by true d = absurd (other (ap (segment_of count) (respects q k d) ∙ e))

    abbrev From : (b : ℕ) → List (Part K V) → Type 0
    From b ps = (i : ℕ) (p : Part K V) → slice_get ps i ≡ Some p → IsPart eq hash count first most (b + i) p

    next_from : (b : ℕ) (p : Part K V) (ps : List (Part K V)) → From b (p ∷ ps) → From (suc b) ps
    next_from b p ps each i x e = subst (λ n. IsPart eq hash count first most n x) (omega arith) (each (suc i) x e)

    first_from : (b : ℕ) (p : Part K V) (ps : List (Part K V)) → From b (p ∷ ps) → IsPart eq hash count first most b p
    first_from b p ps each = subst (λ n. IsPart eq hash count first most n p) (omega arith) (each 0 p refl)

    later_keys : (b : ℕ) (ps : List (Part K V)) → From b ps → AllByRecursion (λ k. b ≤ segment_of count (hash k)) (keys_of (entries (listed_over ps)))
    later_keys b [] each = tt
    later_keys b (p ∷ ps) each = subst (λ ks. AllByRecursion (λ k. b ≤ segment_of count (hash k)) ks) (sym (joined (listed_part p) (listed_over ps)))
        (all_joined (λ k. b ≤ segment_of count (hash k)) (keys_of (entries (listed_part p))) (keys_of (entries (listed_over ps)))
        (all_mapped (λ k. segment_of count (hash k) ≡ b) (λ k. b ≤ segment_of count (hash k)) (λ k e. omega (arith, e)) (keys_of (entries (listed_part p)))
        (own_keys b p (first_from b p ps each)))
        (all_mapped (λ k. suc b ≤ segment_of count (hash k)) (λ k. b ≤ segment_of count (hash k)) (λ k e. omega (arith, e)) (keys_of (entries (listed_over ps)))
        (later_keys (suc b) ps (next_from b p ps each))))

    distinct_over : (b : ℕ) (ps : List (Part K V)) → From b ps → IsDistinct eq (keys_of (entries (listed_over ps)))
    unfolding IsDistinct
    distinct_over b [] each = tt
    distinct_over b (p ∷ ps) each = subst (λ ks. IsDistinct eq ks) (sym (joined (listed_part p) (listed_over ps)))
        (distinct_joined eq (λ k. segment_of count (hash k) ≡ b) (λ k. suc b ≤ segment_of count (hash k)) apart
        (keys_of (entries (listed_part p))) (keys_of (entries (listed_over ps))) (own_keys b p (first_from b p ps each))
        (later_keys (suc b) ps (next_from b p ps each)) (listed_distinct eq hash (memory_at p) p.nodes.items first _ (first_from b p ps each).well)
        (distinct_over (suc b) ps (next_from b p ps each)))
      where
        apart : (k l : K) → segment_of count (hash k) ≡ b → suc b ≤ segment_of count (hash l) → eq k l ≡ false
        apart k l d e = by (eq k l) refl
          where
            by : (t : Bool) → eq k l ≡ t → eq k l ≡ false
            by false f = f
            by true f = let same : segment_of count (hash k) ≡ segment_of count (hash l) = ap (segment_of count) (respects k l f) in absurd (omega (arith, d, e, same))

    lookup_over : (q : K) (b i : ℕ) (ps : List (Part K V)) → From b ps → segment_of count (hash q) ≡ b + i →
        lookup (eq q) (entries (listed_over ps)) ≡ option_map_or (λ p. map_at eq p q) (slice_get ps i) None
    lookup_over q b i [] each at = refl
    lookup_over q b zero (p ∷ ps) each at =
        lookup_first q (listed_part p) (listed_over ps) (not_listed q (listed_over ps)
        (all_mapped (λ k. suc b ≤ segment_of count (hash k)) (λ k. eq q k ≡ false) away (keys_of (entries (listed_over ps))) (later_keys (suc b) ps (next_from b p ps each))))
        ∙ lookup_listed eq p.nodes.items q (words_of (memory_at p) (root (memory_at p)))
      where
        away : (k : K) → suc b ≤ segment_of count (hash k) → eq q k ≡ false
        away k e = by (eq q k) refl
          where
            by : (t : Bool) → eq q k ≡ t → eq q k ≡ false
            by false f = f
            by true f = let same : segment_of count (hash q) ≡ segment_of count (hash k) = ap (segment_of count) (respects q k f) in absurd (omega (arith, at, e, same))
    lookup_over q b (suc i) (p ∷ ps) each at =
        lookup_last q (listed_part p) (listed_over ps) (found q b p (first_from b p ps each) (λ e. omega (arith, e, at)))
        ∙ lookup_over q (suc b) i ps (next_from b p ps each) (omega (arith, at))

-- the pairs of all segments are those of the map
pub lists_over : {K V : Type 0} (eq : K → K → Bool) (hash : K → ℕ) (respects : (x y : K) → eq x y ≡ true → hash x ≡ hash y) (parts : List (Part K V)) (first most len : ℕ) →
    AreParts eq hash parts first most len → (pairs : List (K × Stored V)) → pairs ≡ listed_over parts → ListsPairs eq pairs (map_over eq hash parts)
lists_over {K} {V} eq hash respects parts first most len well pairs is = record {
  entries = entries (listed_over parts);
  lists = record {
    distinct = distinct_over eq hash respects (length parts) first most 0 parts from;
    same = λ q. lookup_over eq hash respects (length parts) first most q 0 (segment_of (length parts) (hash q)) parts from (omega arith);
  };
  are = is ∙ values_entries (listed_over parts);
}
  where
    from : (i : ℕ) (p : Part K V) → slice_get parts i ≡ Some p → IsPart eq hash (length parts) first most (0 + i) p
    from i p e = subst (λ n. IsPart eq hash (length parts) first most n p) (omega arith) (well.each i p e)

-- and their keys are those that the map has
pub keys_over : {K V : Type 0} (eq : K → K → Bool) (hash : K → ℕ) (respects : (x y : K) → eq x y ≡ true → hash x ≡ hash y) (parts : List (Part K V)) (first most len : ℕ) →
    AreParts eq hash parts first most len →
    IsDistinct eq (keys_of (entries (listed_over parts))) × ((q : K) → lookup (eq q) (entries (listed_over parts)) ≡ map_over eq hash parts q)
keys_over {K} {V} eq hash respects parts first most len well = (
  distinct_over eq hash respects (length parts) first most 0 parts from,
  λ q. lookup_over eq hash respects (length parts) first most q 0 (segment_of (length parts) (hash q)) parts from (omega arith),
)
  where
    from : (i : ℕ) (p : Part K V) → slice_get parts i ≡ Some p → IsPart eq hash (length parts) first most (0 + i) p
    from i p e = subst (λ n. IsPart eq hash (length parts) first most n p) (omega arith) (well.each i p e)
