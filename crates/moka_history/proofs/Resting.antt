-- Segments whose words a step leaves, and what lasts through steps.
use Rattle.std.proofs.Common.{◌≡◌, ℕ, ◌<◌, ◌==◌, Bool, true, List, [], ◌∷◌, ◌++◌, length, Option, Some, inl, inr, refl, sym, ap, subst, ◌∙◌, arith}
use Rattle.std.specs.Cmp.{IsEquivalence}
use Rattle.std.specs.List.{slice_get}
use mathlib.Core.List.{IsPrefix}
use Rattle.moka_words.specs.declared.words.Word.{Word}
use Rattle.moka_words.specs.Words.{is_sealed, word_at}
use Rattle.moka_words.specs.Effect.{LaterMemory}
use Rattle.moka_growth.specs.Sound.{IsSound}
use Rattle.moka_growth.specs.Maps.{KeepsMap, IsElsewhere}
use Rattle.moka_growth.proofs.Elsewhere.{elsewhere_keeps_sound}
use Rattle.moka_growth.proofs.Lasts.{later_memory_goes_on}
use Rattle.moka_pairs.specs.Keys.{Agrees, Respects, hash_by, same_by, mine_by}
use Rattle.moka_pairs.specs.Segments.{SoundAll, LaterAll}
use Rattle.moka_pairs.proofs.Names.{agrees_now, agrees_through, names_keys}
use Rattle.moka_pairs.proofs.Divided.{segment_are, segment_grows}
use Rattle.moka_pairs.proofs.Grown.{map_grown}
use Rattle.moka_pairs.proofs.Mapped.{map_kept}
use Rattle.moka_pairs.proofs.Steps.{later_same}
use Rattle.moka_history.specs.declared.note.Note.{Note}
use Rattle.moka_history.specs.declared.note.Note.TheVariants.{Sealed}
use Rattle.moka_history.specs.States.{Owner, Door, Bucket, Ticket, Array, Row, Next, Root, State, memory_of, words_in}
use Rattle.moka_history.specs.Logs.{entries_of, state_of}
use Rattle.moka_history.specs.Rules.{keys_of, pair_in, IsGood, IsOfArray, IsRooted, IsRowStill, Lasts, IsFront, IsSameOrSealed, NamesSeal, IsKept}
use Rattle.moka_history.specs.Keeping.{IsDivided}
use Rattle.moka_history.proofs.Folds.{entries_grow}
use Rattle.moka_history.proofs.Lists.{front_get, prefix_more, prefix_self}

-- a cell that was a row's
pub row_through : {K V : Type 0} (eq : K → K → Bool) (place : K → ℕ) (b c : State K V) → Lasts eq place b c → (k n : ℕ) (x : Bool) →
    IsRowStill b k n x → IsRowStill c k n x
row_through eq place b c then k n x (inl (y, at, home)) = elim (then.rows k n y at) [
  | inl still ↦ inl (still.0, still.1, λ h. still.2 (home h))
  | inr made ↦ inr made
]
row_through eq place b c then k n x (inr (o, at, is, (own, there))) =
    let (z, there_yet, home) = then.announced own n true there in
    let (p, at_yet, is_yet) = of_array o at is in
    inr (p, at_yet, is_yet, (own, there_yet ∙ ap (λ d. Some (Array n d)) (home refl)))
  where
    of_array : (o : Owner) → slice_get b.cells k ≡ Some o → IsOfArray o → (p : Owner) × (slice_get c.cells k ≡ Some p) × IsOfArray p
    of_array Door at is = absurd is
    of_array (Bucket w) at is = let (v, at_yet) = then.buckets k w at in (Bucket v, at_yet, tt)
    of_array (Ticket m h) at is = absurd is
    of_array (Array m h) at is = absurd is
    of_array (Row m h) at is = absurd is
    of_array (Next a t) at is = let (u, at_yet) = then.nexts k a t at in (Next a u, at_yet, tt)
    of_array (Root i t) at is = absurd is

-- an array that was a root
pub rooted_through : {K V : Type 0} (eq : K → K → Bool) (place : K → ℕ) (b c : State K V) → Lasts eq place b c → (i a : ℕ) → IsRooted b i a →
    IsRooted c i a
rooted_through eq place b c then i a r =
    let later = then.later i r.within (keys_of place c i) (agrees_now (keys_of place c i)) in
    record {
      within = subst (λ n. i < n) (sym then.segments) r.within;
      rooted = record {
        place = r.rooted.place;
        before = let low = r.rooted.before in let more = later.rooted in omega (arith, low, more);
        there = later.arrays r.rooted.place a r.rooted.there;
      };
    }

module _ {K V : Type 0} (eq : K → K → Bool) (laws : IsEquivalence eq) (hash place : K → ℕ) (respects : Respects eq hash) where
  -- a segment that a step leaves stays sound, and its map as it was, while more numbers get pairs
  module _ (s new : State K V) (grows : Agrees new.pairs s.pairs) (i : ℕ) (sound : SoundAll eq hash (keys_of place s i) (memory_of s i))
      (elsewhere : IsElsewhere (memory_of s i) (memory_of new i)) where
    more : Agrees (keys_of place new i) (keys_of place s i)
    more = segment_grows (λ key. place key == i) new.pairs s.pairs grows

    rests : (keys : ℕ → Option K) → Agrees keys (keys_of place new i) →
        IsSound (hash_by hash keys) (same_by eq keys) (mine_by keys) (memory_of new i)
        × LaterMemory (same_by eq keys) (memory_of s i) (memory_of new i) × KeepsMap (memory_of s i) (memory_of new i)
    rests keys agrees = elsewhere_keeps_sound (hash_by hash keys) (same_by eq keys) (mine_by keys) (memory_of s i) (memory_of new i)
        (names_keys eq laws hash respects keys) (sound keys (agrees_through keys (keys_of place new i) (keys_of place s i) agrees more)) elsewhere

    pub rests_sound : SoundAll eq hash (keys_of place new i) (memory_of new i)
    rests_sound keys agrees = (rests keys agrees).0

    pub rests_later : LaterAll eq (keys_of place new i) (memory_of s i) (memory_of new i)
    rests_later keys agrees = (rests keys agrees).1

    pub rests_map : (q : K) → pair_in eq place new i q ≡ pair_in eq place s i q
    rests_map q = map_kept eq laws hash respects (keys_of place new i) new.pairs (memory_of s i) (memory_of new i) rests_sound
        (rests (keys_of place new i) (agrees_now (keys_of place new i))).2 q
        ∙ map_grown eq laws hash respects (keys_of place s i) s.pairs (segment_are (λ key. place key == i) s.pairs) (keys_of place new i) new.pairs more grows
        (memory_of s i) sound q

  -- what stays true stays so
  pub lasts_same : (s : State K V) → Lasts eq place s s
  lasts_same s = record {
    segments = refl;
    last = omega arith;
    arrays = λ a i k e. e;
    tickets = λ k n b e. (b, e, λ h. h);
    announced = λ k n b e. (b, e, λ h. h);
    rows = λ k n b e. inl (b, e, λ h. h);
    buckets = λ k w e. (w, e);
    nexts = λ k a t e. (t, e);
    roots = λ k i t e. (t, e);
    pairs = agrees_now s.pairs;
    plans = agrees_now s.plans;
    later = λ i below. later_same eq laws hash respects (keys_of place s i) (memory_of s i);
  }

  pub lasts_through : (a b c : State K V) → Lasts eq place a b → Lasts eq place b c → Lasts eq place a c
  lasts_through a b c first then = record {
    segments = then.segments ∙ first.segments;
    last = let low = first.last in let high = then.last in omega (arith, low, high);
    arrays = λ n i k e. then.arrays n i k (first.arrays n i k e);
    tickets = λ k n x e.
        let (y, at, home) = first.tickets k n x e in
        let (z, there, home_yet) = then.tickets k n y at in
        (z, there, λ h. home_yet (home h));
    announced = λ k n x e.
        let (y, at, home) = first.announced k n x e in
        let (z, there, home_yet) = then.announced k n y at in
        (z, there, λ h. home_yet (home h));
    rows = λ k n x e. row_through eq place b c then k n x (first.rows k n x e);
    buckets = λ k w e. (let (v, at) = first.buckets k w e in then.buckets k v at);
    nexts = λ k n t e. (let (u, at) = first.nexts k n t e in then.nexts k n u at);
    roots = λ k i t e. (let (u, at) = first.roots k i t e in then.roots k i u at);
    pairs = agrees_through c.pairs b.pairs a.pairs then.pairs first.pairs;
    plans = agrees_through c.plans b.plans a.plans then.plans first.plans;
    later = λ i below keys agrees. later_memory_goes_on (hash_by hash keys) (same_by eq keys) (memory_of a i) (memory_of b i) (memory_of c i)
        (names_keys eq laws hash respects keys)
        (first.later i below keys (agrees_through keys (keys_of place c i) (keys_of place b i) agrees
        (segment_grows (λ key. place key == i) c.pairs b.pairs then.pairs)))
        (then.later i (subst (λ n. i < n) (sym first.segments) below) keys agrees);
  }

-- words that are as they were, or sealed, since before
pub stays_through : (a b c : Word) → IsSameOrSealed a b → IsSameOrSealed b c → IsSameOrSealed a c
stays_through a b c first (inr sealed) = inr sealed
stays_through a b c (inl same) (inl same_yet) = inl (same_yet ∙ same)
stays_through a b c (inr sealed) (inl same_yet) = inr (ap is_sealed same_yet ∙ sealed)

-- a log that goes on names the seals that it named
pub names_more : {K V S : Type 0} (log : List (Note K V S)) (note : Note K V S) (array index : ℕ) (w : Word) → NamesSeal array index w log →
    NamesSeal array index w (log ++ note ∷ [])
names_more log note array index w (n, at) = (n, front_get log (note ∷ []) n (Sealed array index w) at)

-- a kept log stays kept with one note more, after which all is good and has lasted
module _ {K V S : Type 0} (eq : K → K → Bool) (hash : S → K → ℕ) (place : S → ℕ → K → ℕ) (divided : IsDivided eq hash place)
    (log : List (Note K V S)) (note : Note K V S) (kept : IsKept eq hash place log) where
  abbrev pub Place : K → ℕ
  Place = place kept.hasher kept.segments

  abbrev pub Longer : List (Note K V S)
  Longer = log ++ note ∷ []

  module _ (good : IsGood eq (hash kept.hasher) Place (state_of Longer) (entries_of Longer)) (lasts : Lasts eq Place (state_of log) (state_of Longer))
      (rests_words : length (entries_of Longer) ≡ length (entries_of log) → (i a index : ℕ) → IsRooted (state_of log) i a →
      IsSameOrSealed (word_at (words_in (state_of log) a) index) (word_at (words_in (state_of Longer) a) index))
      (named : (array index : ℕ) → is_sealed (word_at (words_in (state_of Longer) array) index) ≡ true →
      NamesSeal array index (word_at (words_in (state_of Longer) array) index) Longer) where
    same : (s : State K V) → Lasts eq Place s s
    same = lasts_same eq divided.laws (hash kept.hasher) Place (divided.hashed kept.hasher)

    through : (front : List (Note K V S)) → IsFront front log → Lasts eq Place (state_of front) (state_of Longer)
    through front is = lasts_through eq divided.laws (hash kept.hasher) Place (divided.hashed kept.hasher) (state_of front) (state_of log) (state_of Longer)
        (kept.lasts front log is (prefix_self log)) lasts

    to_longer : (front : List (Note K V S)) → IsFront front Longer → Lasts eq Place (state_of front) (state_of Longer)
    to_longer front is = elim (prefix_more front log note is.begins) [
      | inl old ↦ through front (record { some = is.some; begins = old })
      | inr e ↦ subst (λ l. Lasts eq Place (state_of front) (state_of l)) e (same (state_of front))
    ]

    -- words of arrays that have been roots change by entries and seals alone
    abbrev Stays : (front next : List (Note K V S)) (a index : ℕ) → Type 0
    Stays front next a index = IsSameOrSealed (word_at (words_in (state_of front) a) index) (word_at (words_in (state_of next) a) index)

    still_log : (front : List (Note K V S)) → IsFront front log → length (entries_of Longer) ≡ length (entries_of front) → (i a index : ℕ) →
        IsRooted (state_of front) i a → Stays front Longer a index
    still_log front is equal i a index rooted =
        let some = entries_grow front log is.begins in
        let more = entries_grow log Longer (note ∷ [], refl) in
        stays_through (word_at (words_in (state_of front) a) index) (word_at (words_in (state_of log) a) index)
        (word_at (words_in (state_of Longer) a) index)
        (kept.still front log is (prefix_self log) (omega (arith, equal, some, more)) i a index rooted)
        (rests_words (omega (arith, equal, some, more)) i a index
        (rooted_through eq Place (state_of front) (state_of log) (kept.lasts front log is (prefix_self log)) i a rooted))

    still_longer : (front : List (Note K V S)) → IsFront front Longer → length (entries_of Longer) ≡ length (entries_of front) → (i a index : ℕ) →
        IsRooted (state_of front) i a → Stays front Longer a index
    still_longer front is equal i a index rooted = elim (prefix_more front log note is.begins) [
      | inl old ↦ still_log front (record { some = is.some; begins = old }) equal i a index rooted
      | inr e ↦ inl (ap (λ l. word_at (words_in (state_of l) a) index) (sym e))
    ]

    pub longer_kept : IsKept eq hash place Longer
    longer_kept = record {
      segments = kept.segments;
      size = kept.size;
      hasher = kept.hasher;
      opened = (kept.opened.0 ++ note ∷ [], ap (λ l. l ++ note ∷ []) kept.opened.1);
      good = λ front is. elim (prefix_more front log note is.begins) [
        | inl old ↦ kept.good front (record { some = is.some; begins = old })
        | inr e ↦ subst (λ l. IsGood eq (hash kept.hasher) Place (state_of l) (entries_of l)) (sym e) good
      ];
      lasts = λ front next is begins. elim (prefix_more next log note begins) [
        | inl old ↦ kept.lasts front next is old
        | inr e ↦ subst (λ l. Lasts eq Place (state_of front) (state_of l)) (sym e)
            (to_longer front (record { some = is.some; begins = subst (λ l. IsPrefix front l) e is.begins }))
      ];
      still = λ front next is begins equal i a index rooted. elim (prefix_more next log note begins) [
        | inl old ↦ kept.still front next is old equal i a index rooted
        | inr e ↦ subst (λ l. Stays front l a index) (sym e)
            (still_longer front (record { some = is.some; begins = subst (λ l. IsPrefix front l) e is.begins })
            (ap (λ l. length (entries_of l)) (sym e) ∙ equal) i a index rooted)
      ];
      seals = λ front is. elim (prefix_more front log note is.begins) [
        | inl old ↦ kept.seals front (record { some = is.some; begins = old })
        | inr e ↦ subst (λ l. (array index : ℕ) → is_sealed (word_at (words_in (state_of l) array) index) ≡ true →
            NamesSeal array index (word_at (words_in (state_of l) array) index) l) (sym e) named
      ];
    }
