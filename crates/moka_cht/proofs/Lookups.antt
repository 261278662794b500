-- What the two maps have, by what stands in one bucket.
use Rattle.std.proofs.Common.{◌≡◌, ◌≢◌, ℕ, zero, suc, ◌<◌, Bool, true, false, cond, List, replicate, length, Option, Some, None, IsSome, is_some, inl, inr, refl, sym, ap, ◌∙◌, subst, arith}
use Rattle.std.proofs.lemmas.Bool.{cases_lt, false≢true}
use Rattle.std.proofs.lemmas.List.{get_or_past}
use Rattle.std.specs.Cmp.{IsEquivalence}
use Rattle.std.specs.Option.{IfSome, MatchOption, option_map}
use Rattle.moka_words.specs.declared.words.Word.{Word}
use Rattle.moka_words.specs.declared.words.Word.TheVariants.{Unset, Empty, Live, Tomb, SealedEmpty, SealedLive, SealedTomb}
use Rattle.moka_words.specs.Words.{node_of, stored_in, word_at}
use Rattle.moka_words.specs.Arrays.{IsArray, bucket_at}
use Rattle.moka_words.specs.Later.{IsAbsent, IsOwnHash}
use Rattle.moka_words.proofs.Passing.{ends_absent}
use Rattle.moka_cht.specs.declared.node.Node.{Node}
use Rattle.moka_cht.specs.declared.probe.Aim.TheVariants.{Get, Remove}
use Rattle.moka_cht.specs.declared.probe.Place.{Place}
use Rattle.moka_cht.specs.declared.probe.Place.TheVariants.{Free, Dead, Stored}
use Rattle.moka_cht.specs.declared.probe.Aim.{Aim}
use Rattle.moka_cht.specs.declared.probe.Ending.TheVariants.{Kept}
use Rattle.moka_cht.specs.Nodes.{IsKept, node_at, node_hash, own_key, pair_in, hash_in, same_key}
use Rattle.moka_cht.specs.Probes.{Chooses, EndsAt, PassesAll, Tells, IsOwnPlace, present_of, word_of}
use Rattle.moka_cht.specs.Buckets.{Buckets, IsHashOf, IsTable, at_key, filled, hash_for, pair_for, stored, value_under}
use Rattle.moka_cht.proofs.Firsts.{first_none, first_some}
use Rattle.moka_cht.proofs.Sameness.{own_nodes}

-- a stored node is the word's node
pub stored_named : (w : Word) (n : ℕ) → stored_in w ≡ Some n → node_of w ≡ Some n
stored_named Unset n e = e
stored_named Empty n e = e
stored_named (Live m) n e = e
stored_named (Tomb m) n e = absurd cc
stored_named SealedEmpty n e = e
stored_named (SealedLive m) n e = e
stored_named (SealedTomb m) n e = absurd cc

-- the word of a place has its node
pub place_named : (at : Place) (w : Word) (n : ℕ) → w ≡ word_of at → node_of (word_of at) ≡ Some n → node_of w ≡ Some n
place_named at w n is named = ap node_of is ∙ named

pub has_pair : {A : Type 0} (o : Option A) → IsSome o → (p : A) × (o ≡ Some p)
has_pair None e = absurd (false≢true e)
has_pair (Some p) e = (p, refl)

module _ {K V : Type 0} (eq : K → K → Bool) (laws : IsEquivalence eq) (words : List Word) (nodes : List (Node K V)) where
  abbrev both : Buckets K V
  both = record { words = words; nodes = nodes }

  at_own : {A : Type 0} (q : K) (f : Node K V → Option A) (o : Option ℕ) (n : ℕ) → o ≡ Some n → own_key eq nodes q n ≡ true → at_key eq nodes q f o ≡ f (node_at nodes n)
  at_own q f o n is own = ap (at_key eq nodes q f) is ∙ ap (λ b. cond b (f (node_at nodes n)) None) own

  at_other : {A : Type 0} (q : K) (f : Node K V → Option A) (o : Option ℕ) → ((n : ℕ) → o ≡ Some n → own_key eq nodes q n ≡ false) → at_key eq nodes q f o ≡ None
  at_other q f None other = refl
  at_other q f (Some n) other = ap (λ b. cond b (f (node_at nodes n)) None) (other n refl)

  -- no bucket has the key, live
  pub stored_none : (q : K) → ((i n : ℕ) → stored_in (word_at words i) ≡ Some n → own_key eq nodes q n ≡ false) → stored eq both q ≡ None
  stored_none q none = first_none (pair_for eq nodes q) Unset words (λ j. at_other q pair_in (stored_in (word_at words j)) (none j))

  pub filled_none : (q : K) → IsAbsent (own_key eq nodes q) words → filled eq both q ≡ None
  filled_none q none = first_none (hash_for eq nodes q) Unset words (λ j. at_other q (λ node. Some (hash_in node)) (node_of (word_at words j)) (none j))

  pub stored_absent : (q : K) → IsAbsent (own_key eq nodes q) words → stored eq both q ≡ None
  stored_absent q none = stored_none q (λ i n e. none i n (stored_named (word_at words i) n e))

  module _ (array : IsArray (node_hash nodes) (same_key eq nodes) words) where
    -- another bucket than the key's has another key
    pub others_apart : (q : K) (i n : ℕ) → node_of (word_at words i) ≡ Some n → own_key eq nodes q n ≡ true →
        (j m : ℕ) → j ≢ i → node_of (word_at words j) ≡ Some m → own_key eq nodes q m ≡ false
    others_apart q i n here own j m apart there = by (own_key eq nodes q m) refl
      where
        by : (b : Bool) → own_key eq nodes q m ≡ b → own_key eq nodes q m ≡ false
        by false e = e
        by true e = absurd (apart (array.one j i m n there here ((own_nodes eq laws nodes q).one m n e own)))

    pub filled_some : (q : K) (i n : ℕ) → node_of (word_at words i) ≡ Some n → own_key eq nodes q n ≡ true → filled eq both q ≡ Some (node_hash nodes n)
    filled_some q i n here own =
        first_some (hash_for eq nodes q) Unset words i (node_hash nodes n) refl (at_own q (λ node. Some (hash_in node)) (node_of (word_at words i)) n here own)
        (λ j apart. at_other q (λ node. Some (hash_in node)) (node_of (word_at words j)) (λ m there. others_apart q i n here own j m apart there))

    pub stored_some : (q : K) (i n : ℕ) (p : K × V) → stored_in (word_at words i) ≡ Some n → own_key eq nodes q n ≡ true → pair_in (node_at nodes n) ≡ Some p → stored eq both q ≡ Some p
    stored_some q i n p here own pair =
        first_some (pair_for eq nodes q) Unset words i p refl (at_own q pair_in (stored_in (word_at words i)) n here own ∙ pair)
        (λ j apart. at_other q pair_in (stored_in (word_at words j)) (λ m there. others_apart q i n (stored_named (word_at words i) n here) own j m apart (stored_named (word_at words j) m there)))

    -- a tombstone of the key
    pub stored_dead : (q : K) (i n : ℕ) → word_at words i ≡ Tomb n → own_key eq nodes q n ≡ true → stored eq both q ≡ None
    stored_dead q i n here own = stored_none q by_case
      where
        by_case : (j m : ℕ) → stored_in (word_at words j) ≡ Some m → own_key eq nodes q m ≡ false
        by_case j m there = by (own_key eq nodes q m) refl
          where
            at_tomb : stored_in (word_at words i) ≡ None
            at_tomb = ap stored_in here

            by : (b : Bool) → own_key eq nodes q m ≡ b → own_key eq nodes q m ≡ false
            by false e = e
            by true e =
                let same_place = array.one j i m n (stored_named (word_at words j) m there) (ap node_of here) ((own_nodes eq laws nodes q).one m n e own) in
                let here_stored : stored_in (word_at words i) ≡ Some m = subst (λ x. stored_in (word_at words x) ≡ Some m) same_place there in
                absurd cc

    -- the hash of the key's bucket
    pub own_hash : (q : K) (h : ℕ) → IsHashOf eq both q h → IsOwnHash (node_hash nodes) (own_key eq nodes q) words h
    own_hash q h is i n here own = subst (λ o. IfSome o (λ x. x ≡ h)) (filled_some q i n here own) is

    -- after all buckets, or at one without a key, the key is absent
    pub passes_absent : (q : K) (h : ℕ) → IsHashOf eq both q h → PassesAll (own_key eq nodes q) words h → IsAbsent (own_key eq nodes q) words
    passes_absent q h is passes = ends_absent (node_hash nodes) (same_key eq nodes) (own_key eq nodes q) words h (length words) array (own_hash q h is) passes (λ e. absurd (omega arith))

    pub free_absent : (q : K) (h n : ℕ) → IsHashOf eq both q h → EndsAt (own_key eq nodes q) words h n Free → IsAbsent (own_key eq nodes q) words
    free_absent q h n is ends = ends_absent (node_hash nodes) (same_key eq nodes) (own_key eq nodes q) words h n array (own_hash q h is) ends.passed (λ e. ap node_of ends.there)

    -- what is stored at a place at which the probe ends
    pub stored_at : (q : K) (h n : ℕ) (at : Place) → IsHashOf eq both q h → EndsAt (own_key eq nodes q) words h n at →
        MatchOption (present_of at) (stored eq both q ≡ None) (λ m. (word_at words (bucket_at (length words) h n) ≡ Live m) × (own_key eq nodes q m ≡ true))
    stored_at q h n Free is ends = stored_absent q (free_absent q h n is ends)
    stored_at q h n (Dead m) is ends = stored_dead q (bucket_at (length words) h n) m ends.there ends.own_place
    stored_at q h n (Stored m) is ends = (ends.there, ends.own_place)

    -- what a look tells of the pair that is stored
    pub kept_stored : (a : Aim) (q : K) (h : ℕ) (present : Option ℕ) → IsHashOf eq both q h → Tells (own_key eq nodes q) words a h (Kept present) →
        MatchOption present (stored eq both q ≡ None) (λ m. (i : ℕ) × (word_at words i ≡ Live m) × (own_key eq nodes q m ≡ true))
    kept_stored a q h present is told = elim told.1 [ inl ends ↦ at_end ends.0 ends.1 ends.2 ends.3 | inr all ↦ subst (λ o. MatchOption o (stored eq both q ≡ None) (λ m. (i : ℕ) × (word_at words i ≡ Live m) × (own_key eq nodes q m ≡ true))) (sym all.1) (stored_absent q (passes_absent q h is all.0)) ]
      where
        at_end : (n : ℕ) (at : Place) → EndsAt (own_key eq nodes q) words h n at → present ≡ present_of at →
            MatchOption present (stored eq both q ≡ None) (λ m. (i : ℕ) × (word_at words i ≡ Live m) × (own_key eq nodes q m ≡ true))
        at_end n at ends e = subst (λ o. MatchOption o (stored eq both q ≡ None) (λ m. (i : ℕ) × (word_at words i ≡ Live m) × (own_key eq nodes q m ≡ true))) (sym e) (at_place n at ends)
          where
            at_place : (n : ℕ) (at : Place) → EndsAt (own_key eq nodes q) words h n at →
                MatchOption (present_of at) (stored eq both q ≡ None) (λ m. (i : ℕ) × (word_at words i ≡ Live m) × (own_key eq nodes q m ≡ true))
            at_place n Free ends = stored_at q h n Free is ends
            at_place n (Dead m) ends = stored_at q h n (Dead m) is ends
            at_place n (Stored m) ends = (bucket_at (length words) h n, ends.there, ends.own_place)

-- a bucket that is set is one of the array's
pub within_words : (words : List Word) (i : ℕ) (w : Word) → word_at words i ≡ w → w ≢ Unset → i < length words
within_words words i w is set = elim (cases_lt i (length words)) [ inl below ↦ below | inr past ↦ absurd (set (sym is ∙ get_or_past words i Unset past)) ]

module _ {K V : Type 0} (eq : K → K → Bool) (words : List Word) (nodes : List (Node K V)) (table : IsTable eq words nodes) where
  -- a live word has a pair
  pub live_pair : (i n : ℕ) → word_at words i ≡ Live n → (n < length nodes) × IsSome (pair_in (node_at nodes n))
  live_pair i n is = subst (IsKept nodes) is (table.kept i (within_words words i (Live n) is (λ e. cc)))

module _ {K V : Type 0} (eq : K → K → Bool) (laws : IsEquivalence eq) (b : Buckets K V) (words : List Word) (nodes : List (Node K V)) (view : record { words = words; nodes = nodes } ≡ b)
    (ws : List Word) (words_are : ws ≡ words) (ns : List (Node K V)) (nodes_are : ns ≡ nodes) (table : IsTable eq words nodes) where
  -- what a look tells of the pair that is stored
  pub look_stored : (a : Aim) (q : K) (h : ℕ) (present : Option ℕ) → IsHashOf eq b q h → Tells (own_key eq ns q) ws a h (Kept present) →
      MatchOption present (stored eq b q ≡ None) (λ m. (stored eq b q ≡ pair_in (node_at nodes m)) × (m < length nodes))
  look_stored a q h present hashed told = by_option present (kept_stored eq laws words nodes table.array a q h present (subst (λ v. IsHashOf eq v q h) (sym view) hashed)
      (subst (λ x. Tells (own_key eq x q) words a h (Kept present)) nodes_are (subst (λ x. Tells (own_key eq ns q) x a h (Kept present)) words_are told)))
    where
      by_option : (o : Option ℕ) → MatchOption o (stored eq (record { words = words; nodes = nodes }) q ≡ None) (λ m. (i : ℕ) × (word_at words i ≡ Live m) × (own_key eq nodes q m ≡ true)) →
          MatchOption o (stored eq b q ≡ None) (λ m. (stored eq b q ≡ pair_in (node_at nodes m)) × (m < length nodes))
      by_option None e = ap (λ v. stored eq v q) (sym view) ∙ e
      by_option (Some m) (i, is, own) =
          let kept = live_pair eq words nodes table i m is in
          let (pair, pair_is) = has_pair (pair_in (node_at nodes m)) kept.1 in
          (ap (λ v. stored eq v q) (sym view) ∙ stored_some eq laws words nodes table.array q i m pair (ap stored_in is) own pair_is ∙ sym pair_is, kept.0)

  -- a removal that ends at its loads has found nothing
  pub remove_absent : (q : K) (h : ℕ) → IsHashOf eq b q h → (present : Option ℕ) × Tells (own_key eq ns q) ws Remove h (Kept present) → stored eq b q ≡ None
  remove_absent q h hashed (present, told) =
      ap (λ v. stored eq v q) (sym view)
      ∙ by (subst (λ x. Tells (own_key eq x q) words Remove h (Kept present)) nodes_are (subst (λ x. Tells (own_key eq ns q) x Remove h (Kept present)) words_are told))
    where
      here : IsHashOf eq (record { words = words; nodes = nodes }) q h
      here = subst (λ v. IsHashOf eq v q h) (sym view) hashed

      at_place : (n : ℕ) (at : Place) → EndsAt (own_key eq nodes q) words h n at → (Chooses Remove at → ⊥) → stored eq (record { words = words; nodes = nodes }) q ≡ None
      at_place n Free ends not = stored_at eq laws words nodes table.array q h n Free here ends
      at_place n (Dead m) ends not = stored_at eq laws words nodes table.array q h n (Dead m) here ends
      at_place n (Stored m) ends not = absurd (not tt)

      by : Tells (own_key eq nodes q) words Remove h (Kept present) → stored eq (record { words = words; nodes = nodes }) q ≡ None
      by told = elim told.1 [ inl ends ↦ at_place ends.0 ends.1 ends.2 ends.4 | inr all ↦ stored_absent eq laws words nodes q (passes_absent eq laws words nodes table.array q h here all.0) ]

-- an array of empty buckets has no key
empty_at : (n i : ℕ) → node_of (word_at (replicate n Empty) i) ≡ None
empty_at zero i = refl
empty_at (suc n) zero = refl
empty_at (suc n) (suc i) = empty_at n i

empty_absent : (own : ℕ → Bool) (n : ℕ) → IsAbsent own (replicate n Empty)
empty_absent own n i m e = let none = empty_at n i in absurd cc

pub empty_maps : {K V : Type 0} (eq : K → K → Bool) → IsEquivalence eq → (n : ℕ) (nodes : List (Node K V)) (words : List Word) (q : K) → words ≡ replicate n Empty →
    (stored eq (record { words = words; nodes = nodes }) q ≡ None) × (filled eq (record { words = words; nodes = nodes }) q ≡ None)
empty_maps eq laws n nodes words q are =
    subst (λ ws. (stored eq (record { words = ws; nodes = nodes }) q ≡ None) × (filled eq (record { words = ws; nodes = nodes }) q ≡ None)) (sym are)
    (stored_absent eq laws (replicate n Empty) nodes q (empty_absent (own_key eq nodes q) n), filled_none eq laws (replicate n Empty) nodes q (empty_absent (own_key eq nodes q) n))
