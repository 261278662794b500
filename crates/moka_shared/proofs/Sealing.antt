-- Words of a table that are sealed, or are to be.
use Rattle.std.proofs.Common.{◌≡◌, ◌≢◌, ℕ, ◌+◌, ◌*◌, ◌<◌, Bool, true, false, List, length, set, Some, suc, inl, inr, refl, sym, ap, subst, ◌∙◌, arith}
use Rattle.std.proofs.lemmas.Bool.{false≢true}
use Rattle.std.proofs.lemmas.Option.{slice_get_within}
use Rattle.std.proofs.lemmas.List.{length-map}
use Rattle.std.specs.List.{slice_get}
use mathlib.Core.List.{IsPrefix}
use Rattle.moka_words.specs.declared.words.Word.{Word}
use Rattle.moka_words.specs.declared.words.Word.TheVariants.{Unset}
use Rattle.moka_words.specs.Words.{is_sealed, word_at}
use Rattle.moka_words.specs.Arrays.{bucket_at}
use Rattle.moka_growth.specs.Growing.{seal_of}
use Rattle.moka_growth.proofs.Exchanging.{bucket_within, seal_sealed}
use Rattle.moka_history.specs.declared.note.Note.{Note}
use Rattle.moka_history.specs.declared.note.Note.TheVariants.{Sealed}
use Rattle.moka_growth.specs.Fits.{HasBeenRoot}
use Rattle.moka_history.specs.States.{after, memory_of, unopened, word_in, words_in}
use Rattle.moka_history.specs.Logs.{state_of}
use Rattle.moka_history.specs.Cells.{number_of}
use Rattle.moka_history.specs.Keeping.{IsSmall}
use Rattle.moka_history.specs.Rules.{NamesSeal}
use Rattle.moka_history.proofs.Cells.{sealed_sets}
use Rattle.moka_history.proofs.Folds.{state_more}
use Rattle.moka_history.proofs.Fronts.{entry_between, good_now, length_now, seals_now, segments_are}
use Rattle.moka_history.proofs.Lists.{get_or, last_get, prefix_self, prefix_through, set_get}
use Rattle.moka_history.proofs.Named.{array_is}
use Rattle.moka_shared.specs.declared.answers.Missed.TheVariants as missed
use Rattle.moka_shared.specs.declared.answers.TrySeal.{TrySeal}
use Rattle.moka_shared.specs.declared.answers.TrySeal.TheVariants as seal
use Rattle.moka_shared.specs.declared.asked.Seal.{Seal}
use Rattle.moka_shared.specs.Hashing.{segment_of}
use Rattle.moka_shared.specs.Looks.{IsSealedIn}
use Rattle.moka_shared.specs.Meeting.{IsShut}
use Rattle.moka_shared.specs.Probing.{IsLogOf, Loads, ReadsAt}
use Rattle.moka_shared.specs.Rows.{IsMetThere, Leaves, MaySeal, SealsSo}
use Rattle.moka_shared.specs.Steps.{Sees}
use Rattle.moka_shared.specs.Tables.{Table}
use Rattle.moka_shared.proofs.Loading.{first_rooted, first_was, found_is, kept_as, opened_more, opened_some, row_is}

-- the number of an array, as it is reckoned
pub stands_one_up : {K V S : Type 0} (word : Word) (segment index : ℕ) (log : List (Note K V S)) → IsSealedIn word (suc segment) index log →
    IsSealedIn word (segment + 1) index log
stands_one_up word segment index log stands = subst (λ a. IsSealedIn word a index log) (omega arith) stands

-- what became of a word that was to be sealed, where another one was met
pub seals_so : {K V S : Type 0} (array index : ℕ) (old mid new : List (Note K V S)) → IsPrefix old mid → (met : Word) (result : TrySeal) →
    (is_sealed met ≡ true → result ≡ seal.Sealed met) → (is_sealed met ≡ false → result ≡ seal.Again (missed.Lost met)) →
    (is_sealed met ≡ true → IsSealedIn met array index new) → (is_sealed met ≡ false → IsMetThere array index mid met new) → SealsSo array index old new result
seals_so array index old mid new begins met result sealed lost stands there = by (is_sealed met) refl
  where
    by : (b : Bool) → is_sealed met ≡ b → SealsSo array index old new result
    by true e = subst (SealsSo array index old new) (sym (sealed e)) (stands e)
    by false e =
        let x = there e in
        let y : IsMetThere array index old met new =
        record { front = x.front; begins = prefix_through old mid x.front begins x.begins; entry = x.entry; there = x.there; met = x.met } in
        subst (SealsSo array index old new) (sym (lost e)) y

module _ {K V S : Type 0} (eq : K → K → Bool) (hash : S → K → ℕ) (place : S → ℕ → K → ℕ) (t : Table S) where
  module _ (log : List (Note K V S)) (x : IsLogOf eq hash place t log) (segment index : ℕ) (below : segment < t.segments) (inside : index < t.size) where
    abbrev Word_there : Word → Type 0
    Word_there word = word_at (words_in (state_of log) (suc segment)) index ≡ word

    -- a sealed word that stands there is named
    pub seal_stands : (word : Word) → Word_there word → is_sealed word ≡ true → IsSealedIn word (suc segment) index log
    seal_stands word there sealed = record {
      there = there;
      sealed = sealed;
      named = subst (λ w. NamesSeal (suc segment) index w log) there
          (seals_now eq hash place log (kept_as eq hash place t log x) (suc segment) index (ap is_sealed there ∙ sealed));
    }

    within : index < length (words_in (state_of log) (suc segment))
    within = let long = length_now eq hash place log (kept_as eq hash place t log x) segment below in omega (arith, inside, long)

    is_set : word_at (words_in (state_of log) (suc segment)) index ≢ Unset
    is_set = (array_is eq (hash t.hasher) (place t.hasher t.segments) (state_of log) _ (good_now eq hash place log (kept_as eq hash place t log x)) segment (suc segment)
        (first_rooted eq hash place t log x segment below)).set index within

    -- each word of the array is set, so one that is shut is sealed
    pub shut_stands : (word : Word) → Word_there word → IsShut word → IsSealedIn word (suc segment) index log
    shut_stands word there (inl unset) = absurd (is_set (there ∙ unset))
    shut_stands word there (inr sealed) = seal_stands word there sealed

    -- a word that isn't sealed may be
    module _ (word : Word) (small : IsSmall word) (bare : is_sealed word ≡ false) where
      pub may_seal : (bucket from to : ℕ) (asked : Seal) → asked.array ≡ suc segment → asked.index ≡ index → asked.to ≡ seal_of word →
          bucket ≡ 1 + (segment * t.size + index) → from ≡ number_of word → to ≡ number_of (seal_of word) → MaySeal bucket from to asked log
      may_seal bucket from to asked array_is_suc index_is to_seal bucket_is from_is to_is = record {
        some = opened_some t.segments t.size t.hasher log x.opened;
        segment = segment;
        within = subst (λ n. segment < n) (sym (segments_are eq hash place log (kept_as eq hash place t log x))) below;
        rooted = subst (HasBeenRoot (memory_of (state_of log) segment)) (sym array_is_suc) (first_was eq hash place t log x segment below);
        there =
            ap (λ a. slice_get ((state_of log).arrays a) asked.index) array_is_suc
            ∙ (ap (λ i. slice_get ((state_of log).arrays (suc segment)) i) index_is
            ∙ (row_is eq hash place t log x segment index below inside ∙ ap Some (sym bucket_is)));
        word = word;
        small = small;
        bare = bare;
        from_is = from_is;
        to_is = to_is;
        asked_is = to_seal;
      }

    -- the log that follows
    module _ (new : List (Note K V S)) where
      -- the seal was put there
      pub sealed_then : (word to : Word) → to ≡ seal_of word → (key number : ℕ) (note : Note K V S) → note ≡ Sealed (suc segment) index to →
          Leaves eq hash place key number note log new → IsSealedIn to (suc segment) index new
      sealed_then word to to_is key number note note_is leaves = record {
        there = ap (λ s. word_at (words_in s (suc segment)) index) state_is
            ∙ (ap (λ ws. word_at ws index) sets
            ∙ get_or (set (words_in (state_of m) (suc segment)) index to) index to Unset (set_get (words_in (state_of m) (suc segment)) index to there_within));
        sealed = ap is_sealed to_is ∙ seal_sealed word;
        named = (length m, ap (λ l. slice_get l (length m)) leaves.writes.more ∙ (last_get m note ∙ ap Some note_is));
      }
        where
          m : List (Note K V S)
          m = leaves.writes.log

          m_log : IsLogOf eq hash place t m
          m_log = record { kept = leaves.writes.was_kept; opened = opened_more t.segments t.size t.hasher log m x.opened leaves.writes.begins; some = x.some }

          row_within : index < length ((state_of m).arrays (suc segment))
          row_within = slice_get_within ((state_of m).arrays (suc segment)) index (1 + (segment * t.size + index)) (row_is eq hash place t m m_log segment index below inside)

          there_within : index < length (words_in (state_of m) (suc segment))
          there_within =
              let low = row_within in
              let long = length-map ((state_of m).arrays (suc segment)) (word_in (state_of m).cells) in
              omega (arith, low, long)

          state_is : state_of new ≡ after {S = S} (state_of m) note
          state_is = ap state_of leaves.writes.more ∙ state_more unopened m note

          sets : words_in (after {S = S} (state_of m) note) (suc segment) ≡ set (words_in (state_of m) (suc segment)) index to
          sets = (sealed_sets S (state_of m) (good_now eq hash place m (kept_as eq hash place t m m_log)).owned.places (suc segment) index to row_within note note_is segment).0.0

      -- another word was met
      module _ (word : Word) (there : Word_there word) (found : ℕ) (sees : Sees eq hash place (1 + (segment * t.size + index)) found log new)
          (other : found ≢ number_of word) (met : Word) (loads : Loads eq hash place t segment index met log new) where
        new_log : IsLogOf eq hash place t new
        new_log = loads.goes_on.is_log

        differs : word_at (words_in (state_of new) (suc segment)) index ≢ word_at (words_in (state_of log) (suc segment)) index
        differs same = other (found_is eq hash place t log new x segment index below inside found sees ∙ ap number_of (same ∙ there))

        pub met_there : is_sealed met ≡ false → IsMetThere (suc segment) index log met new
        met_there bare = elim (entry_between eq hash place new (kept_as eq hash place t new new_log) log
            (record { some = opened_some t.segments t.size t.hasher log x.opened; begins = loads.goes_on.begins }) segment (suc segment) index
            (first_rooted eq hash place t log x segment below) differs) [
              | inl sealed ↦ absurd (false≢true (sym bare ∙ (ap is_sealed (sym loads.there) ∙ sealed)))
              | inr came ↦ record { front = log; begins = prefix_self log; entry = came.0; there = came.1; met = loads.there }
            ]

  -- a word that was read under a hash
  pub read_stands : (log : List (Note K V S)) → IsLogOf eq hash place t log → (h passed : ℕ) (word : Word) → segment_of t.segments h < t.segments →
      ReadsAt t h passed word log → IsShut word → IsSealedIn word (suc (segment_of t.segments h)) (bucket_at t.size h passed) log
  read_stands log x h passed word below reads shut =
      shut_stands log x (segment_of t.segments h) (bucket_at t.size h passed) below (bucket_within t.size h passed reads.within) word reads.there shut
