-- Nodes that are kept and laid out, and a call that copies them.
use Rattle.std.proofs.Common.{◌≡◌, ◌≢◌, ◌⊎◌, ℕ, ◌+◌, ◌^◌, ◌<◌, ◌≤◌, Bool, false, List, [], ◌∷◌, length, replicate, Option, Some, None, zero, suc, inl, inr, refl, sym, ap, subst, ◌∙◌, arith, set, if◌then◌else◌}
use Rattle.std.proofs.lemmas.Bool.{cases_lt, le-ltb}
use Rattle.std.proofs.lemmas.List.{length-map}
use Rattle.std.specs.Int.{IsPowerOfTwo}
use Rattle.std.specs.Option.{option_map_or}
use mathlib.Core.List.{IsPrefix}
use Rattle.moka_words.specs.declared.words.Word.{Word}
use Rattle.moka_words.specs.declared.words.Word.TheVariants.{Unset, Empty, Live}
use Rattle.moka_words.specs.Words.{node_of, stored_in, word_at}
use Rattle.moka_words.specs.Arrays.{first_free}
use Rattle.moka_words.specs.Layout.{placed}
use Rattle.moka_words.proofs.Laying.{stored_is_key}
use Rattle.moka_growth.specs.declared.kinds.CallKind.TheVariants as kind
use Rattle.moka_growth.specs.Calls as point
use Rattle.moka_growth.specs.Fits.{FitsAt}
use Rattle.moka_growth.specs.Growing.{laid_out, pairs_placed}
use Rattle.moka_growth.proofs.Storing.{laid_is_layout}
use Rattle.moka_pairs.specs.Keys.{hash_by, own_for}
use Rattle.moka_pairs.proofs.Names.{agrees_now}
use Rattle.moka_history.specs.declared.note.Note.{Note}
use Rattle.moka_history.specs.Keeping.{IsDivided, IsSmall}
use Rattle.moka_history.specs.Logs.{entries_of, state_of}
use Rattle.moka_history.specs.Rules.{IsGood, keys_of}
use Rattle.moka_history.specs.States.{memory_of, word_in, words_in}
use Rattle.moka_history.proofs.Fronts.{good_now, words_have_pairs}
use Rattle.moka_history.proofs.Grows.{stands_now}
use Rattle.moka_history.proofs.Lists.{no_item}
use Rattle.moka_shared.specs.Fills.{AreFew, IsLaid}
use Rattle.moka_shared.specs.Links.{Follows, WantsCopy}
use Rattle.moka_shared.specs.Probing.{IsLogOf}
use Rattle.moka_shared.specs.Swings.{AreSet}
use Rattle.moka_shared.specs.Tables.{Table}
use Rattle.moka_shared.proofs.Loading.{first_rooted, kept_as}
use Rattle.moka_shared.proofs.Swung.{sealed_first, set_lasts}
use Rattle.moka_shared.proofs.Walking.{walk_rests}

-- words of which each is small
abbrev AreSmall : List Word → Type 0
AreSmall words = (i : ℕ) → IsSmall (word_at words i)

empty_small : (n : ℕ) → AreSmall (replicate n Empty)
empty_small zero i m e = absurd (no_item e)
empty_small (suc n) zero m e = absurd (no_item e)
empty_small (suc n) (suc i) m e = empty_small n i m e

set_small : (words : List Word) (k : ℕ) (w : Word) → IsSmall w → AreSmall words → AreSmall (set words k w)
set_small [] k w small all i = all i
set_small (x ∷ words) zero w small all zero = small
set_small (x ∷ words) zero w small all (suc i) = all (suc i)
set_small (x ∷ words) (suc k) w small all zero = all zero
set_small (x ∷ words) (suc k) w small all (suc i) = set_small words k w small (λ j. all (suc j)) i

live_small : (n : ℕ) → n ≤ 2 ^ 60 → IsSmall (Live n)
live_small n low m e = let same : n ≡ m = cc (e) in omega (arith, low, same)

placed_small : (hash : ℕ → ℕ) (words : List Word) (n : ℕ) → n ≤ 2 ^ 60 → AreSmall words → AreSmall (placed hash words n)
placed_small hash words n low all = by (first_free words (hash n))
  where
    by : (o : Option ℕ) → AreSmall (option_map_or (λ i. set words i (Live n)) o words)
    by None = all
    by (Some i) = set_small words i (Live n) (live_small n low) all

pairs_small : (words : List Word) (kept : List (ℕ × ℕ)) → AreFew kept → AreSmall words → AreSmall (pairs_placed words kept)
pairs_small words [] few all = all
pairs_small words (p ∷ kept) few all = pairs_small (placed (λ n. p.1) words p.0) kept (λ i q at. few (suc i) q at)
    (placed_small (λ n. p.1) words p.0 (few 0 p refl) all)

-- what is laid out is small
pub laid_small : (kept : List (ℕ × ℕ)) (count : ℕ) (laid : List Word) → AreFew kept → laid ≡ laid_out kept count → (i : ℕ) (w : Word) → word_at laid i ≡ w → IsSmall w
laid_small kept count laid few is i w at = subst IsSmall (ap (λ ws. word_at ws i) (sym is) ∙ at) (pairs_small (replicate count Empty) kept few (empty_small count) i)

module _ {K V S : Type 0} (eq : K → K → Bool) (hash : S → K → ℕ) (place : S → ℕ → K → ℕ) (divided : IsDivided eq hash place) (t : Table S)
    (segment : ℕ) (below : segment < t.segments) where
  -- a node that a word of the first array stores has a pair
  pub stored_has : (log : List (Note K V S)) → IsLogOf eq hash place t log → (index : ℕ) (word : Word) → word_at (words_in (state_of log) (suc segment)) index ≡ word →
      (n : ℕ) → stored_in word ≡ Some n → (p : K × V) × ((state_of log).pairs n ≡ Some p)
  stored_has log x index word there n stored =
      let (p, has, own, low) = words_have_pairs eq hash place log (kept_as eq hash place t log x) segment (suc segment) (first_rooted eq hash place t log x segment below) index n
      (ap node_of there ∙ stored_is_key word n stored) in
      (p, has)

  -- what is laid out stays so
  pub laid_lasts : (old log : List (Note K V S)) → IsLogOf eq hash place t old → IsLogOf eq hash place t log → IsPrefix old log → (count : ℕ) (laid : List Word) →
      IsLaid eq hash place t segment count laid old → IsLaid eq hash place t segment count laid log
  laid_lasts old log y x begins count laid l = record {
    kept = l.kept;
    has = record {
      call = l.has.call;
      stands = stands_now eq hash place divided t.segments t.size t.hasher old y.opened log (kept_as eq hash place t log x) begins segment None l.has.call
          _ (walk_rests segment t.size t.size l.kept) l.has.stands;
    };
    few = l.few;
    laid_is = l.laid_is;
  }

  -- the array has as many words as it has to have
  module _ (log : List (Note K V S)) (x : IsLogOf eq hash place t log) (array : ℕ) (keys : List ℕ) (follows : Follows segment array keys log) where
    good : IsGood eq (hash t.hasher) (place t.hasher t.segments) (state_of log) (entries_of log)
    good = good_now eq hash place log (kept_as eq hash place t log x)

    within : segment < (state_of log).segments
    within = (first_rooted eq hash place t log x segment below).within

    was : 0 < (state_of log).rooted segment
    was = good.linked.some segment within

    as_long : length (words_in (state_of log) array) ≡ length keys
    as_long = length-map ((state_of log).arrays array) (word_in (state_of log).cells) ∙ follows.long

    pub length_power : (count : ℕ) → count ≡ length keys → IsPowerOfTwo count
    length_power count is =
        let known = keys_of (place t.hasher t.segments) (state_of log) segment in
        subst IsPowerOfTwo (as_long ∙ sym is) ((good.sound segment within known (agrees_now known)).power 1 array follows.there)

    -- so a call copies the next word
    module _ (laid : List Word) (count : ℕ) (count_is : count ≡ length keys) (l : IsLaid eq hash place t segment count laid log) (index : ℕ) (inside : index < count)
        (set_so : AreSet array index log) (to : Word) (to_is : to ≡ word_at laid index) where
      at_next : l.has.call.point ≡ point.Next (Some (suc segment)) t.size l.kept
      at_next = l.has.stands.stands
          ∙ ap (λ b. if b then point.Seal (suc segment) t.size t.size l.kept else point.Next (Some (suc segment)) t.size l.kept) (le-ltb t.size t.size (omega arith))

      pub copy_wants : WantsCopy eq hash place t.hasher t.segments segment array index to log
      copy_wants = record {
        key = None;
        call = record { kind = kind.Insert; hash = 0; spent = false; point = point.Copy (Some (suc segment)) array index laid };
        from = Some (suc segment);
        laid = laid;
        stands = record {
          within = within;
          hashed = λ k e. absurd (no_item e);
          fits = λ ks agrees.
              let has = subst (λ p. FitsAt (hash_by (hash t.hasher) ks) (own_for eq ks None) l.has.call.hash (memory_of (state_of log) segment) p) at_next (l.has.stands.fits ks agrees) in
              record {
                place = 1;
                left = record {
                  stands = record { there = refl; within = omega arith };
                  rooted = omega (arith, was);
                  sealed = sealed_first (memory_of (state_of log) segment) (good.sound segment within ks agrees) (suc segment) array refl follows.there was;
                };
                there = follows.there;
                laid_is = l.laid_is ∙ (ap (laid_out l.kept) (count_is ∙ sym as_long)
                    ∙ laid_is_layout (hash_by (hash t.hasher) ks) (words_in (state_of log) (suc segment)) l.kept (length (words_in (state_of log) array)) has.kept_are);
                more = let long = as_long in omega (arith, inside, count_is, long);
                set = set_so;
              };
          stands = refl;
        };
        to_is = to_is;
      }

  -- one word more is set
  pub copied_more : (old new : List (Note K V S)) (y : IsLogOf eq hash place t old) (x : IsLogOf eq hash place t new) (begins : IsPrefix old new)
      (array : ℕ) (keys : List ℕ) → Follows segment array keys old → (index : ℕ) → AreSet array index old → word_at (words_in (state_of new) array) index ≢ Unset →
      AreSet array (index + 1) new
  copied_more old new y x begins array keys follows index set_so last i inside = by (index_cases i inside)
    where
      by : (i < index) ⊎ (i ≡ index) → word_at (words_in (state_of new) array) i ≢ Unset
      by (inl less) = set_lasts eq hash place divided t segment below old new y x begins array keys follows index set_so i less
      by (inr same) = λ unset. last (ap (λ n. word_at (words_in (state_of new) array) n) (sym same) ∙ unset)

      index_cases : (n : ℕ) → n < index + 1 → (n < index) ⊎ (n ≡ index)
      index_cases n low = elim (cases_lt n index) [ inl less ↦ inl less | inr more ↦ inr (omega (arith, low, more)) ]
