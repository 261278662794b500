-- A word of an array is set, on no ticket: what becomes of the cells, and of other segments.
use Rattle.std.proofs.Common.{◌≡◌, ◌≢◌, ℕ, ◌<◌, Bool, true, List, map, length, set, Some, inl, inr, refl, sym, ap, subst, ◌∙◌, arith}
use Rattle.std.proofs.lemmas.Bool.Decides.{eqb_tells}
use Rattle.std.specs.Cmp.{IsEquivalence}
use Rattle.std.specs.List.{slice_get}
use Rattle.moka_words.specs.declared.words.Word.{Word}
use Rattle.moka_words.specs.Words.{node_of, word_at}
use Rattle.moka_words.specs.Effect.{SetsWord}
use Rattle.moka_words.proofs.Lasts.{set_cases}
use Rattle.moka_growth.specs.Maps.{KeepsMap, IsElsewhere}
use Rattle.moka_pairs.specs.Keys.{Respects}
use Rattle.moka_pairs.specs.Segments.{LaterAll, SoundAll}
use Rattle.moka_pairs.proofs.Mapped.{map_kept}
use Rattle.moka_pairs.proofs.Names.{agrees_now}
use Rattle.moka_history.specs.declared.note.Note.TheVariants.{Sealed}
use Rattle.moka_history.specs.Entries.{Entry}
use Rattle.moka_history.specs.States.{Owner, Door, Bucket, Ticket, Array, Row, Next, Root, State, IsPlaced, after, chain, key_at, memory_of, words_in}
use Rattle.moka_history.specs.Cells.{cell_of, number_of}
use Rattle.moka_history.specs.Rules.{keys_of, pair_in, AreLinked, IsOwned, IsDrawn, IsGood, IsRooted, Lasts}
use Rattle.moka_history.proofs.Cells.{key_there, sealed_sets}
use Rattle.moka_history.proofs.Chains.{links_stay}
use Rattle.moka_history.proofs.Lists.{one_item, get_below, map_set, other_get, set_from, set_get}
use Rattle.moka_history.proofs.Owners.{Stays, array_not_bucket, next_not_bucket, row_not_bucket}
use Rattle.moka_history.proofs.Resting.{rests_later, rests_map, rests_sound}
use Rattle.moka_history.proofs.Rooted.{was_rooted}
use Rattle.moka_history.proofs.Swung.{root_not_bucket}

door_not_bucket : {w : Word} → Door ≡ Bucket w → ⊥
door_not_bucket e = absurd (cc (e))

ticket_not_bucket : {w : Word} {n : ℕ} {b : Bool} → Ticket n b ≡ Bucket w → ⊥
ticket_not_bucket e = absurd (cc (e))

module _ {K V : Type 0} (S : Type 0) (eq : K → K → Bool) (laws : IsEquivalence eq) (hash place : K → ℕ) (respects : Respects eq hash)
    (s : State K V) (es : List (Entry K V)) (good : IsGood eq hash place s es) (array index : ℕ) (to : Word) (within : index < length (s.arrays array)) where
  abbrev pub set_state : State K V
  set_state = after {S = S} s (Sealed array index to)

  owned : IsOwned s
  owned = good.owned

  drawn : IsDrawn s es
  drawn = good.drawn

  pub sets : (i : ℕ) → SetsWord array index to (memory_of s i) (memory_of set_state i) × IsPlaced set_state
  sets i = sealed_sets S s owned.places array index to within (Sealed array index to) refl i

  -- a word after it, by what holds of the word before and of the one that is set
  pub word_by : (P : ℕ → ℕ → Word → Type 0) → (a j : ℕ) → P a j (word_at (words_in s a) j) → P array index to → P a j (word_at (words_in set_state a) j)
  word_by P a j was is = elim (eqb_tells a array) [
    | inl p ↦ subst (λ b. P b j (word_at (words_in set_state b) j)) (sym p.1)
        (subst (λ ws. P array j (word_at ws j)) (sym (sets 0).0.0)
        (set_cases (λ w. P array j w) (words_in s array) index to j (subst (λ b. P b j (word_at (words_in s b) j)) p.1 was)
        (λ e. subst (λ k. P array k to) (sym e) is)))
    | inr p ↦ subst (λ ws. P a j (word_at ws j)) (sym ((sets 0).0.1 a p.1)) was
  ]

  -- the cells
  abbrev bucket : ℕ
  bucket = key_at s array index

  bucket_is : (w : Word) × (slice_get s.cells bucket ≡ Some (Bucket w))
  bucket_is = owned.buckets array index bucket (key_there (s.arrays array) index within)

  below : bucket < length s.cells
  below = get_below s.cells bucket (Bucket bucket_is.0) bucket_is.1

  before : (o : Owner) → (o ≡ Bucket to → ⊥) → (k : ℕ) → slice_get set_state.cells k ≡ Some o → slice_get s.cells k ≡ Some o
  before o other k e = elim (set_from s.cells bucket (Bucket to) below k o e) [
    | inl new_one ↦ absurd (other new_one.1)
    | inr old_one ↦ old_one.1
  ]

  still : (o : Owner) → ((w : Word) → o ≡ Bucket w → ⊥) → (k : ℕ) → slice_get s.cells k ≡ Some o → slice_get set_state.cells k ≡ Some o
  still o other k e = other_get s.cells bucket k (Bucket to)
      (λ same. other bucket_is.0 (one_item (sym e ∙ (ap (slice_get s.cells) same ∙ bucket_is.1)))) ∙ e

  still_bucket : (k : ℕ) (w : Word) → slice_get s.cells k ≡ Some (Bucket w) → (v : Word) × (slice_get set_state.cells k ≡ Some (Bucket v))
  still_bucket k w e = elim (eqb_tells k bucket) [
    | inl p ↦ (to, ap (slice_get set_state.cells) p.1 ∙ set_get s.cells bucket (Bucket to) below)
    | inr p ↦ (w, other_get s.cells bucket k (Bucket to) p.1 ∙ e)
  ]

  array_stays : Stays Array s.cells set_state.cells
  array_stays k n b e = (b, still (Array n b) (λ w d. array_not_bucket d) k e, λ h. h)

  set_owned : IsOwned set_state
  set_owned = record {
    door = λ k. (λ e. (owned.door k).0 (before Door (λ d. door_not_bucket d) k e), λ e. still Door (λ w d. door_not_bucket d) k ((owned.door k).1 e));
    buckets = λ a i k e. (let (w, at) = owned.buckets a i k e in still_bucket k w at);
    places = (sets 0).1;
    tickets = λ j k n b c e f. owned.tickets j k n b c (before (Ticket n b) (λ d. ticket_not_bucket d) j e) (before (Ticket n c) (λ d. ticket_not_bucket d) k f);
    arrays = λ j k n b c e f. owned.arrays j k n b c (before (Array n b) (λ d. array_not_bucket d) j e) (before (Array n c) (λ d. array_not_bucket d) k f);
    nexts = λ j k a t u e f. owned.nexts j k a t u (before (Next a t) (λ d. next_not_bucket d) j e) (before (Next a u) (λ d. next_not_bucket d) k f);
    roots = λ j k i t u e f. owned.roots j k i t u (before (Root i t) (λ d. root_not_bucket d) j e) (before (Root i u) (λ d. root_not_bucket d) k f);
  }

  set_drawn : IsDrawn set_state es
  set_drawn = record {
    first = drawn.first;
    last = drawn.last;
    cells = λ k n b e. drawn.cells k n b (before (Ticket n b) (λ d. ticket_not_bucket d) k e);
    pairs = drawn.pairs;
    entries = drawn.entries;
    once = drawn.once;
    announced = λ k n b e. drawn.announced k n b (before (Array n b) (λ d. array_not_bucket d) k e);
    rows = λ k n b e. drawn.rows k n b (before (Row n b) (λ d. row_not_bucket d) k e);
    planned = drawn.planned;
  }

  set_linked : AreLinked set_state
  set_linked = links_stay s good.linked set_state refl (omega arith) drawn.first (λ i. refl) (λ a. refl) (agrees_now s.plans) array_stays
      (λ k n b e. inl (before (Array n b) (λ d. array_not_bucket d) k e)) (λ k a t e. before (Next a t) (λ d. next_not_bucket d) k e)
      (λ k i t e. before (Root i t) (λ d. root_not_bucket d) k e) (λ i. refl) good.linked.grown

  pub set_cells : (d : ℕ) → set (map (cell_of d) s.cells) bucket (number_of to, true) ≡ map (cell_of d) set_state.cells
  set_cells d = sym (map_set (cell_of d) s.cells bucket (Bucket to))

  -- the array is one of this segment alone, which stays sound and keeps its map
  module _ (segment : ℕ) (alone : (i p a : ℕ) → i < s.segments → i ≢ segment → slice_get (chain s i) p ≡ Some a → a ≢ array)
      (sound_here : SoundAll eq hash (keys_of place s segment) (memory_of set_state segment))
      (later_here : LaterAll eq (keys_of place s segment) (memory_of s segment) (memory_of set_state segment))
      (keeps_here : KeepsMap (memory_of s segment) (memory_of set_state segment))
      (named : (i a j : ℕ) → IsRooted s i a → node_of (word_at (words_in set_state a) j) ≡ node_of (word_at (words_in s a) j)) where
    map_here : (q : K) → pair_in eq place set_state segment q ≡ pair_in eq place s segment q
    map_here q = map_kept eq laws hash respects (keys_of place s segment) s.pairs (memory_of s segment) (memory_of set_state segment) sound_here keeps_here q

    elsewhere : (i : ℕ) → i < s.segments → i ≢ segment → IsElsewhere (memory_of s i) (memory_of set_state i)
    elsewhere i low other = record {
      words = λ p a e. (sets i).0.1 a (alone i p a low other e);
      arrays = refl;
      rooted = refl;
      fresh = omega arith;
    }

    all_sound : (i : ℕ) → i < s.segments → SoundAll eq hash (keys_of place set_state i) (memory_of set_state i)
    all_sound i low = elim (eqb_tells i segment) [
      | inl p ↦ subst (λ j. SoundAll eq hash (keys_of place set_state j) (memory_of set_state j)) (sym p.1) sound_here
      | inr p ↦ rests_sound eq laws hash place respects s set_state (agrees_now s.pairs) i (good.sound i low) (elsewhere i low p.1)
    ]

    all_later : (i : ℕ) → i < s.segments → LaterAll eq (keys_of place set_state i) (memory_of s i) (memory_of set_state i)
    all_later i low = elim (eqb_tells i segment) [
      | inl p ↦ subst (λ j. LaterAll eq (keys_of place set_state j) (memory_of s j) (memory_of set_state j)) (sym p.1) later_here
      | inr p ↦ rests_later eq laws hash place respects s set_state (agrees_now s.pairs) i (good.sound i low) (elsewhere i low p.1)
    ]

    all_map : (i : ℕ) (q : K) → i < s.segments → pair_in eq place set_state i q ≡ pair_in eq place s i q
    all_map i q low = elim (eqb_tells i segment) [
      | inl p ↦ subst (λ j. pair_in eq place set_state j q ≡ pair_in eq place s j q) (sym p.1) (map_here q)
      | inr p ↦ rests_map eq laws hash place respects s set_state (agrees_now s.pairs) i (good.sound i low) (elsewhere i low p.1) q
    ]

    pub set_good : IsGood eq hash place set_state es
    set_good = record {
      owned = set_owned;
      drawn = set_drawn;
      linked = set_linked;
      sound = all_sound;
      puts = λ i a j n p r names at.
          let rooted = was_rooted s set_state i a refl refl refl r in
          good.puts i a j n p rooted (sym (named i a j rooted) ∙ names) at;
      legal = good.legal;
      map_is = λ q low. good.map_is q low ∙ sym (all_map (place q) q low);
    }

    pub set_lasts : Lasts eq place s set_state
    set_lasts = record {
      segments = refl;
      last = omega arith;
      arrays = λ a i k e. e;
      tickets = λ k n b e. (b, still (Ticket n b) (λ w d. ticket_not_bucket d) k e, λ h. h);
      announced = array_stays;
      rows = λ k n b e. inl (b, still (Row n b) (λ w d. row_not_bucket d) k e, λ h. h);
      buckets = still_bucket;
      nexts = λ k a t e. (t, still (Next a t) (λ w d. next_not_bucket d) k e);
      roots = λ k i t e. (t, still (Root i t) (λ w d. root_not_bucket d) k e);
      pairs = agrees_now s.pairs;
      plans = agrees_now s.plans;
      later = all_later;
    }
