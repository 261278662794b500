-- Arrays whose nodes agree: the named ones have the keys and the hashes that they had.
use Rattle.std.proofs.Common.{◌≡◌, ◌≢◌, ℕ, ◌<◌, ◌≤◌, Bool, true, false, cond, eqb, List, length, Option, Some, None, IsSome, is_some, inl, inr, refl, sym, ap, ◌∙◌, subst, set, arith}
use Rattle.std.proofs.lemmas.Bool.{cases_eq, cases_lt, false≢true}
use Rattle.std.proofs.lemmas.List.{get_or-set_same, get_or-set_other, get_or_past}
use borrow.Author.Tests.{eqb-true}
use Rattle.std.specs.Option.{option_map_or}
use Rattle.moka_words.specs.declared.words.Word.{Word}
use Rattle.moka_words.specs.declared.words.Word.TheVariants.{Unset, Empty, Live, Tomb, SealedEmpty, SealedLive, SealedTomb}
use Rattle.moka_words.specs.Words.{node_of, word_at}
use Rattle.moka_words.specs.Arrays.{IsArray, IsReached}
use Rattle.moka_words.specs.Later.{HasPassed, IsAbsent}
use Rattle.moka_cht.specs.declared.node.Node.{Node}
use Rattle.moka_cht.specs.declared.node.Node.TheVariants.{Unused, Pair, Removed}
use Rattle.moka_cht.specs.Nodes.{AllKept, IsKept, has_key, hash_in, key_in, node_at, node_hash, own_key, pair_in, same_key, same_keys}
use Rattle.moka_cht.specs.Buckets.{AllNamed, IsTable, at_key}
use Rattle.moka_cht.proofs.Lookups.{has_pair}

-- a word of an array in which one was set
pub set_at : (P : Word → Type 0) (words : List Word) (i : ℕ) (w : Word) (j : ℕ) → i < length words → (j ≢ i → P (word_at words j)) → (j ≡ i → P w) → P (word_at (set words i w) j)
set_at P words i w j within there here = elim (cases_eq j i) [ inl e ↦ subst (λ x. P (word_at (set words i w) x)) (sym e) (subst P (sym (get_or-set_same words i w Unset within)) (here e)) | inr e ↦ subst P (sym (get_or-set_other words i j w Unset e)) (there e) ]

-- a bucket with a node is one of the array's
pub named_within : (words : List Word) (i n : ℕ) → node_of (word_at words i) ≡ Some n → i < length words
named_within words i n named = elim (cases_lt i (length words)) [ inl below ↦ below | inr past ↦ let none = ap node_of (get_or_past words i Unset past) in absurd cc ]

module _ {K V : Type 0} where
  pair_has_key : (node : Node K V) → IsSome (pair_in node) → IsSome (key_in node)
  pair_has_key Unused e = e
  pair_has_key (Pair h k v) e = refl
  pair_has_key (Removed h k) e = refl

  -- the node of a kept word has a key
  pub kept_key : (nodes : List (Node K V)) (w : Word) (n : ℕ) → IsKept nodes w → node_of w ≡ Some n → (n < length nodes) × IsSome (key_in (node_at nodes n))
  kept_key nodes Unset n kept e = absurd kept
  kept_key nodes Empty n kept e = absurd cc
  kept_key nodes (Live m) n kept e = let same : m ≡ n = cc in subst (λ x. (x < length nodes) × IsSome (key_in (node_at nodes x))) same (kept.0, pair_has_key (node_at nodes m) kept.1)
  kept_key nodes (Tomb m) n kept e = let same : m ≡ n = cc in subst (λ x. (x < length nodes) × IsSome (key_in (node_at nodes x))) same (kept.0, kept.1)
  kept_key nodes SealedEmpty n kept e = absurd kept
  kept_key nodes (SealedLive m) n kept e = absurd kept
  kept_key nodes (SealedTomb m) n kept e = absurd kept

  -- a word stays kept where its node stays
  pub kept_along : (nodes new : List (Node K V)) (w : Word) → length nodes ≤ length new → ((n : ℕ) → node_of w ≡ Some n → node_at new n ≡ node_at nodes n) → IsKept nodes w → IsKept new w
  kept_along nodes new Unset longer stays kept = kept
  kept_along nodes new Empty longer stays kept = kept
  kept_along nodes new (Live n) longer stays kept = let below = kept.0 in (omega arith, subst (λ x. IsSome (pair_in x)) (sym (stays n refl)) kept.1)
  kept_along nodes new (Tomb n) longer stays kept =
      let below = kept.0 in (omega arith, subst (λ x. IsSome (key_in x)) (sym (stays n refl)) kept.1, ap pair_in (stays n refl) ∙ kept.2)
  kept_along nodes new SealedEmpty longer stays kept = kept
  kept_along nodes new (SealedLive n) longer stays kept = kept
  kept_along nodes new (SealedTomb n) longer stays kept = kept

  -- a node with a key is used
  pub key_used : (node : Node K V) → IsSome (key_in node) → node ≢ Unused
  key_used Unused e = absurd (false≢true e)
  key_used (Pair h k v) e = λ same. cc
  key_used (Removed h k) e = λ same. cc

  -- what is asked of a node that stays
  pub at_same : {A : Type 0} (eq : K → K → Bool) (nodes new : List (Node K V)) (q : K) (f : Node K V → Option A) (o : Option ℕ) → ((n : ℕ) → o ≡ Some n → node_at new n ≡ node_at nodes n) →
      at_key eq new q f o ≡ at_key eq nodes q f o
  at_same eq nodes new q f None stays = refl
  at_same eq nodes new q f (Some n) stays = ap (λ node. cond (has_key eq q node) (f node) None) (stays n refl)

module _ {K V : Type 0} (eq : K → K → Bool) (words : List Word) (nodes : List (Node K V)) (table : IsTable eq words nodes) where
  -- a node that is named has a key
  pub named_key : (i n : ℕ) → node_of (word_at words i) ≡ Some n → (n < length nodes) × IsSome (key_in (node_at nodes n))
  named_key i n named = kept_key nodes (word_at words i) n (table.kept i (named_within words i n named)) named

  -- nodes of one key have one hash
  pub one_hash : AllNamed words nodes → (n m : ℕ) → same_key eq nodes n m ≡ true → node_hash nodes n ≡ node_hash nodes m
  one_hash named n m same = by (key_in (node_at nodes n)) (key_in (node_at nodes m)) refl refl same
    where
      by : (a c : Option K) → key_in (node_at nodes n) ≡ a → key_in (node_at nodes m) ≡ c → same_keys eq (eqb n m) a c ≡ true → node_hash nodes n ≡ node_hash nodes m
      by (Some k) (Some l) first second e =
          let (i, here) = named n (key_used (node_at nodes n) (ap is_some first)) in
          let (j, there) = named m (key_used (node_at nodes m) (ap is_some second)) in
          let place = table.array.one i j n m here there same in
          let moved = subst (λ x. node_of (word_at words x) ≡ Some n) place here in
          let one_node : n ≡ m = cc in ap (node_hash nodes) one_node
      by (Some k) None first second e = ap (node_hash nodes) (eqb-true n m e)
      by None c first second e = ap (node_hash nodes) (eqb-true n m e)

module _ {K V : Type 0} (eq : K → K → Bool) (words : List Word) (nodes new : List (Node K V))
    (keys : (i n : ℕ) → node_of (word_at words i) ≡ Some n → key_in (node_at new n) ≡ key_in (node_at nodes n))
    (hashes : (i n : ℕ) → node_of (word_at words i) ≡ Some n → node_hash new n ≡ node_hash nodes n) where
  pub own_stays : (q : K) (i n : ℕ) → node_of (word_at words i) ≡ Some n → own_key eq new q n ≡ own_key eq nodes q n
  own_stays q i n here = ap (λ o. option_map_or (eq q) o false) (keys i n here)

  pub array_along : IsArray (node_hash nodes) (same_key eq nodes) words → IsArray (node_hash new) (same_key eq new) words
  array_along array = record {
    one = λ i j n m here there same. array.one i j n m here there
        (sym (ap (λ o. same_keys eq (eqb n m) o (key_in (node_at new m))) (keys i n here) ∙ ap (same_keys eq (eqb n m) (key_in (node_at nodes n))) (keys j m there)) ∙ same);
    reached = λ i n here. subst (λ h. IsReached words h i) (sym (hashes i n here)) (array.reached i n here);
  }

  pub passed_along : (q : K) (h n : ℕ) → HasPassed (own_key eq nodes q) words h n → HasPassed (own_key eq new q) words h n
  passed_along q h n passed k below = let o = passed k below in (o.0, o.1, own_stays q _ o.0 o.1 ∙ o.2)

  pub absent_along : (q : K) → IsAbsent (own_key eq nodes q) words → IsAbsent (own_key eq new q) words
  absent_along q absent i n here = own_stays q i n here ∙ absent i n here
