-- What a look at a key finds.
use Rattle.std.proofs.Common.{◌≡◌, ℕ, ◌<◌, Bool, true, false, List, length, Option, Some, None, inl, inr, zero, suc, refl, sym, ap, subst, ◌∙◌, arith}
use Rattle.std.proofs.lemmas.Bool.{false≢true}
use Rattle.std.specs.Cmp.{IsEquivalence}
use Rattle.std.specs.Int.{IsPowerOfTwo}
use Rattle.std.specs.Option.{option_map_or}
use Rattle.moka_words.specs.declared.words.Word.{Word}
use Rattle.moka_words.specs.declared.words.Word.TheVariants.{Unset, Empty, Live, Tomb, SealedEmpty, SealedLive, SealedTomb}
use Rattle.moka_words.specs.Words.{node_of, stored_in, word_at}
use Rattle.moka_words.specs.Arrays.{bucket_at, IsArray}
use Rattle.moka_words.specs.Later.{IsOwn, HasOther, IsAbsent}
use Rattle.moka_words.specs.Layout.{IsStored}
use Rattle.moka_words.specs.Effect.{Memory, array_at, array_before, root, words_of}
use Rattle.moka_words.proofs.Laying.{stored_is_key}
use Rattle.moka_words.proofs.Passing.{ends_absent}
use Rattle.moka_growth.specs.Sound.{IsSound}
use Rattle.moka_growth.specs.Maps.{Finds}
use Rattle.moka_growth.proofs.Copying.{root_is_array}
use Rattle.moka_growth.proofs.Finding.{FindsIn, absent_in}
use Rattle.moka_buckets.specs.declared.node.Node.{Node}
use Rattle.moka_pairs.specs.Keys.{hash_by, same_by, own_by}
use Rattle.moka_buckets.specs.Nodes.{key_in, pair_at, pair_in}
use Rattle.moka_buckets.specs.Tables.{map_of, IsWell}
use Rattle.moka_buckets.specs.Looking.{is_end, Seeks}
use Rattle.moka_pairs.proofs.Names.{agrees_now, is_key}
use Rattle.moka_pairs.proofs.Mapped.{map_found}

one_node : {n k : ℕ} → Some n ≡ Some k → n ≡ k
one_node e = cc

no_node : {n : ℕ} → None ≡ Some n → ⊥
no_node e = cc

-- a word that names no node stores none
stores_none : (w : Word) → node_of w ≡ None → stored_in w ≡ None
stores_none Unset e = refl
stores_none Empty e = refl
stores_none (Live n) e = absurd (no_node (sym e))
stores_none (Tomb n) e = refl
stores_none SealedEmpty e = refl
stores_none (SealedLive n) e = absurd (no_node (sym e))
stores_none (SealedTomb n) e = refl

-- a probe goes on past another key alone
pub passes : (own : ℕ → Bool) (w : Word) → is_end own w ≡ false → HasOther own w
passes own w e = by (node_of w) refl e
  where
    by : (o : Option ℕ) → node_of w ≡ o → option_map_or own o true ≡ false → HasOther own w
    by None d f = absurd (false≢true (sym f))
    by (Some n) d f = (n, d, f)

module _ {hash : ℕ → ℕ} {same : ℕ → ℕ → Bool} {own : ℕ → Bool} (is_own : IsOwn same own) (words : List Word)
    (array : IsArray hash same words) (h : ℕ) (hashed : (n : ℕ) → own n ≡ true → hash n ≡ h) (o : Option ℕ) (seeks : Seeks own words h o) where
  abbrev I : ℕ
  I = bucket_at (length words) h seeks.passed

  gone : (seeks.passed < length words → node_of (word_at words I) ≡ None) → IsAbsent own words
  gone free = ends_absent hash same own words h seeks.passed array (λ i n e o. hashed n o) seeks.passed_are free

  -- the bucket of the key stores no other node
  buried : (n k : ℕ) → node_of (word_at words I) ≡ Some n → own n ≡ true → stored_in (word_at words I) ≡ None → IsStored words k → own k ≡ false
  buried n k there is none stored = by (own k) refl
    where
      by : (b : Bool) → own k ≡ b → own k ≡ false
      by false e = e
      by true e = let same_bucket : stored.0 ≡ I = array.one stored.0 I k n (stored_is_key (word_at words stored.0) k stored.1) there (is_own.one k n e is) in
          absurd (no_node (sym none ∙ (ap (λ i. stored_in (word_at words i)) (sym same_bucket) ∙ stored.1)))

  found_here : (n : ℕ) → node_of (word_at words I) ≡ Some n → own n ≡ true → FindsIn own words (stored_in (word_at words I))
  found_here n there is = by (stored_in (word_at words I)) refl
    where
      by : (x : Option ℕ) → stored_in (word_at words I) ≡ x → FindsIn own words x
      by None e = λ k stored. buried n k there is e stored
      by (Some k) e = ((I, e), subst (λ x. own x ≡ true) (one_node (sym there ∙ stored_is_key (word_at words I) k e)) is)

  ended : (x : Option ℕ) → node_of (word_at words I) ≡ x → option_map_or own x true ≡ true → FindsIn own words (stored_in (word_at words I))
  ended None e is = subst (λ x. FindsIn own words x) (sym (stores_none (word_at words I) e)) (absent_in own words (gone (λ within. e)))
  ended (Some n) e is = found_here n e is

  pub seek_finds : FindsIn own words o
  seek_finds = elim seeks.ends [
    | inl e ↦ subst (λ x. FindsIn own words x) (sym e.1) (absent_in own words (gone (λ within. absurd (let past = e.0 in omega (arith, past, within)))))
    | inr e ↦ subst (λ x. FindsIn own words x) (sym e.1) (ended (node_of (word_at words I)) refl e.0)
  ]

finds_in_root : (own : ℕ → Bool) (m : Memory) (o : Option ℕ) → FindsIn own (words_of m (root m)) o → Finds own m o
finds_in_root own m None f = f
finds_in_root own m (Some n) f = f

-- the root's length is a power of two
pub root_power : {hash : ℕ → ℕ} {same : ℕ → ℕ → Bool} {mine : ℕ → Bool} (m : Memory) → IsSound hash same mine m →
    0 < length (words_of m (root m)) → IsPowerOfTwo (length (words_of m (root m)))
root_power m sound some = by m.rooted some
  where
    at : (p : ℕ) (o : Option ℕ) → array_at m p ≡ o → 0 < length (words_of m o) → IsPowerOfTwo (length (words_of m o))
    at p None e h = absurd (omega (arith, h))
    at p (Some a) e h = sound.power p a e

    by : (n : ℕ) → 0 < length (words_of m (array_before m n)) → IsPowerOfTwo (length (words_of m (array_before m n)))
    by zero h = absurd (omega (arith, h))
    by (suc p) h = at p (array_at m p) refl h

-- what a probe of the root finds under a key is what the map has there
pub seek_is_map : {K V : Type 0} (eq : K → K → Bool) (laws : IsEquivalence eq) (hash : K → ℕ) (respects : (x y : K) → eq x y ≡ true → hash x ≡ hash y)
    (nodes : List (Node K V)) (m : Memory) (first peak : ℕ) → IsWell eq hash m nodes first peak → (h : ℕ) (key : K) → h ≡ hash key → (o : Option ℕ) →
    Seeks (own_by eq (key_in nodes) key) (words_of m (root m)) h o → pair_at nodes o ≡ map_of eq m nodes key
seek_is_map eq laws hash respects nodes m first peak well h key hashed o seeks =
    let keys = key_in nodes in
    let own = own_by eq keys key in
    let is = is_key eq laws hash respects key keys in
    let found = finds_in_root own m o (seek_finds {hash = hash_by hash keys} {same = same_by eq keys} is.one (words_of m (root m))
    (root_is_array m (well.sound keys (agrees_now keys))).0 h (λ n e. is.hashed n e ∙ sym hashed) o seeks) in
    sym (map_found eq laws hash respects keys (pair_in nodes) m well.sound key o found)
