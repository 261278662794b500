-- Under equal keys a table has one pair, and that pair's key is equal to them.
use Rattle.std.proofs.Common.{◌≡◌, ℕ, Bool, true, false, cond, List, [], ◌∷◌, length, Option, Some, None, refl, sym, ap, subst, ◌∙◌}
use Rattle.std.proofs.lemmas.Bool.{false≢true}
use Rattle.std.specs.Hash.{HashWrites}
use Rattle.std.specs.declared.hash.Hasher as hasher
use Rattle.std.specs.declared.hash.BuildHasher as builder
use Rattle.std.specs.Cmp.{IsEquivalence}
use Rattle.std.specs.List.{find, fold, slice_get}
use denote.Ref.{Bor}
use Rattle.std.specs.Fn.{Mut}
use Rattle.std.specs.Option.{MatchOption, option_map, option_map_or}
use Rattle.moka_hist.specs.declared.records.Stored.{Stored}
use Rattle.moka_words.specs.Effect.{Memory}
use Rattle.moka_growth.specs.Maps.{present_nodes}
use Rattle.moka_buckets.specs.declared.node.Node.{Node}
use Rattle.moka_buckets.specs.declared.part.Part.{Part}
use Rattle.moka_pairs.specs.Keys.{own_by}
use Rattle.moka_buckets.specs.Nodes.{key_in, pair_at}
use Rattle.moka_buckets.specs.Tables.{map_of}
use Rattle.moka_buckets.specs.Parts.{map_at, map_over, memory_at, segment_of}
use Rattle.moka_buckets.specs.Views.{Buckets, map_in}
use Rattle.moka_map.specs.Calls.{Makes}
use Rattle.moka_map.specs.Maps.{entries, entry_of, hash_for, Removes, Stays, TakesWhere}
use Rattle.moka_pairs.proofs.Found.{find_some}

one_some : {A : Type 0} {x y : A} → Some x ≡ Some y → x ≡ y
one_some e = cc

none_some : {A : Type 0} {x : A} → None ≡ Some x → ⊥
none_some e = cc

-- tests that agree find one thing
alike_find : {A : Type 0} (f g : A → Bool) → ((x : A) → f x ≡ g x) → (xs : List A) → find f xs ≡ find g xs
alike_find f g e [] = refl
alike_find f g e (x ∷ xs) = ap (λ b. cond b (Some x) (find f xs)) (e x) ∙ ap (cond (g x) (Some x)) (alike_find f g e xs)

module _ {K V : Type 0} (eq : K → K → Bool) where
  node_key : (q : K) (o : Option (Node K V)) (p : K × Stored V) → option_map_or (eq q) (option_map (λ node. node.key) o) false ≡ true →
      option_map (λ node. (node.key, node.stored)) o ≡ Some p → eq q p.0 ≡ true
  node_key q None p own pair = absurd (false≢true own)
  node_key q (Some node) p own pair = subst (λ x. eq q x.0 ≡ true) (one_some pair) own

  found_key : (m : Memory) (nodes : List (Node K V)) (q : K) (p : K × Stored V) → map_of eq m nodes q ≡ Some p → eq q p.0 ≡ true
  found_key m nodes q p e = by (find (own_by eq (key_in nodes) q) (present_nodes m)) refl e
    where
      by : (o : Option ℕ) → find (own_by eq (key_in nodes) q) (present_nodes m) ≡ o → pair_at nodes o ≡ Some p → eq q p.0 ≡ true
      by None d f = absurd (none_some f)
      by (Some n) d f = node_key q (slice_get nodes n) p (find_some (own_by eq (key_in nodes) q) (present_nodes m) n d).1 f

  -- the key of the pair under q is equal to q
  pub key_of_found : (hash : K → ℕ) (parts : List (Part K V)) (q : K) (p : K × Stored V) → map_over eq hash parts q ≡ Some p → eq q p.0 ≡ true
  key_of_found hash parts q p e = by (slice_get parts (segment_of (length parts) (hash q))) e
    where
      by : (o : Option (Part K V)) → option_map_or (λ x. map_at eq x q) o None ≡ Some p → eq q p.0 ≡ true
      by None d = absurd (none_some d)
      by (Some part) d = found_key (memory_at part) part.nodes.items q p d

  module _ (laws : IsEquivalence eq) (q k : K) (equal : eq q k ≡ true) where
    own_alike : (nodes : List (Node K V)) (n : ℕ) → own_by eq (key_in nodes) q n ≡ own_by eq (key_in nodes) k n
    own_alike nodes n = by (key_in nodes n)
      where
        by : (o : Option K) → option_map_or (eq q) o false ≡ option_map_or (eq k) o false
        by None = refl
        by (Some x) = laws.congr q k x equal

    at_alike : (part : Part K V) → map_at eq part q ≡ map_at eq part k
    at_alike part = ap (pair_at part.nodes.items)
        (alike_find (own_by eq (key_in part.nodes.items) q) (own_by eq (key_in part.nodes.items) k) (own_alike part.nodes.items) (present_nodes (memory_at part)))

    -- under equal keys there is one pair
    pub alike_over : (hash : K → ℕ) (parts : List (Part K V)) → hash q ≡ hash k → map_over eq hash parts q ≡ map_over eq hash parts k
    alike_over hash parts same =
        ap (λ h. option_map_or (λ x. map_at eq x q) (slice_get parts (segment_of (length parts) h)) None) same ∙ by (slice_get parts (segment_of (length parts) (hash k)))
      where
        by : (o : Option (Part K V)) → option_map_or (λ x. map_at eq x q) o None ≡ option_map_or (λ x. map_at eq x k) o None
        by None = refl
        by (Some part) = at_alike part

module _ {K V S H : Type 0} (b : builder.Ghosts S H) (h : hasher.Ghosts H) (eq : K → K → Bool) (input : K → HashWrites) (t : Buckets K V S) where
  -- equal keys have one hash
  pub respects_hash : ((x y : K) → eq x y ≡ true → input x ≡ input y) → (x y : K) → eq x y ≡ true → hash_for b h input t x ≡ hash_for b h input t y
  respects_hash same x y e = ap (λ w. h.finish (fold h.write (b.build_hasher t.hasher) w)) (same x y e)

  -- the key that stands under q is equal to q
  pub named : (q k : K) → Some k ≡ option_map (λ p. p.0) (entries b h eq input t q) → eq q k ≡ true
  named q k e = by (map_in b h eq input t q) refl e
    where
      by : (o : Option (K × Stored V)) → map_in b h eq input t q ≡ o → Some k ≡ option_map (λ p. p.0) (entry_of o) → eq q k ≡ true
      by None d f = absurd (none_some (sym f))
      by (Some p) d f = subst (λ x. eq q x ≡ true) (sym (one_some f)) (key_of_found eq (hash_for b h input t) t.parts q p d)

  -- under equal keys a map has one pair
  pub alike : IsEquivalence eq → ((x y : K) → eq x y ≡ true → hash_for b h input t x ≡ hash_for b h input t y) → (q k : K) → eq q k ≡ true →
      entries b h eq input t k ≡ entries b h eq input t q
  alike laws respects q k equal = ap (λ o. entry_of o) (sym (alike_over eq laws q k equal (hash_for b h input t) t.parts (respects q k equal)))

-- what is removed under a key is removed under those equal to it
pub removes_alike : {K V S H : Type 0} (b : builder.Ghosts S H) (h : hasher.Ghosts H) (eq : K → K → Bool) (input : K → HashWrites) → IsEquivalence eq → (q k : K) → eq q k ≡ true →
    (old new : Buckets K V S) → Removes b h eq input k old new → Removes b h eq input q old new
removes_alike b h eq input laws q k equal old new r = record {
  entries_are = λ x. r.entries_are x ∙ ap (λ c. cond c None (entries b h eq input old x)) (sym (laws.congr q k x equal));
  keys_are = r.keys_are;
  hasher_stays = r.hasher_stays;
  segments_stay = r.segments_stay;
}

-- a pair that the condition holds of is taken out under each key that is equal to its own
pub where_taken : {F K V S H : Type 0} (b : builder.Ghosts S H) (h : hasher.Ghosts H) (eq : K → K → Bool) (input : K → HashWrites) → IsEquivalence eq →
    (g : Mut F (Bor K × (Bor V × Unit {0})) Bool) (condition : F) (old new : Buckets K V S) → ((x y : K) → eq x y ≡ true → hash_for b h input old x ≡ hash_for b h input old y) →
    (q k : K) (v : V) → Makes g condition (k, v) true → entries b h eq input old q ≡ Some (k, v) → (before : Option (K × V)) → before ≡ entries b h eq input old k →
    MatchOption before (Stays b h eq input old new) (λ p. Removes b h eq input k old new) → TakesWhere b h eq input g condition q old before new
where_taken {K} b h eq input laws g condition old new respects q k v made there before is takes =
    let equal = named b h eq input old q k (sym (ap (option_map {U = K} (λ p. p.0)) there)) in
    let taken = is ∙ (alike b h eq input old laws respects q k equal ∙ there) in
    subst (λ o. TakesWhere b h eq input g condition q old o new) (sym taken) (
      there,
      made,
      removes_alike b h eq input laws q k equal old new (subst (λ o. MatchOption o (Stays b h eq input old new) (λ p. Removes b h eq input k old new)) taken takes),
    )
