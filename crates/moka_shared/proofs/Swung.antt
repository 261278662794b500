-- The root of a segment that is swung, once each word of the array after its first one is set.
use Rattle.std.proofs.Common.{◌≡◌, ◌≢◌, ◌⊎◌, ℕ, ◌+◌, ◌*◌, ◌<◌, Bool, true, false, List, [], ◌∷◌, length, Option, Some, None, zero, suc, inl, inr, refl, sym, ap, subst, ◌∙◌, arith, slice_index_or}
use Rattle.std.proofs.lemmas.Bool.{cases_lt}
use Rattle.std.proofs.lemmas.List.{length-map}
use Rattle.std.specs.List.{slice_get}
use mathlib.Core.List.{IsPrefix}
use Rattle.logbook.specs.Pages.{cell}
use Rattle.moka_words.specs.declared.words.Word.TheVariants.{Unset}
use Rattle.moka_words.specs.declared.accesses.Seen.TheVariants as seen
use Rattle.moka_words.specs.Words.{is_sealed, word_at}
use Rattle.moka_words.specs.Effect.{LaterMemory, Memory, array_at, array_before, root, words_of}
use Rattle.moka_words.specs.Later.{LaterWords}
use Rattle.moka_growth.specs.declared.kinds.CallKind.TheVariants as kind
use Rattle.moka_growth.specs.Calls.{access_of}
use Rattle.moka_growth.specs.Calls as point
use Rattle.moka_growth.specs.Growing.{IsSealed}
use Rattle.moka_growth.specs.Sound.{IsSound}
use Rattle.moka_pairs.specs.Keys.{same_by}
use Rattle.moka_pairs.specs.Segments.{EffectAll}
use Rattle.moka_pairs.proofs.Names.{agrees_now}
use Rattle.moka_history.specs.declared.note.Note.{Note}
use Rattle.moka_history.specs.declared.note.Note.TheVariants.{Swung}
use Rattle.moka_history.specs.Cells.{cells_of, number_of}
use Rattle.moka_history.specs.Keeping.{IsDivided}
use Rattle.moka_history.specs.Logs.{entries_of, state_of}
use Rattle.moka_history.specs.Rules.{IsFront, IsGood, IsKept, IsRooted, Lasts, keys_of, root_named}
use Rattle.moka_history.specs.States.{Root, after, memory_of, root_number, unopened, word_in, words_in}
use Rattle.moka_history.proofs.Chains.{link_high}
use Rattle.moka_history.proofs.Folds.{state_more}
use Rattle.moka_history.proofs.Fronts.{cell_now, cells_now, good_now, kept_too, lasts_now, length_now, opened_too, root_now}
use Rattle.moka_history.proofs.Grows.{stands_now}
use Rattle.moka_history.proofs.Lists.{get_or, no_item, prefix_through}
use Rattle.moka_history.proofs.Numbers.{one_is_unset}
use Rattle.moka_history.proofs.Steps.{swinging_effect}
use Rattle.moka_history.proofs.Swinging.{root_is, root_other, swing_there, swung_rooted}
use Rattle.moka_shared.specs.declared.answers.TrySwing.{TrySwing}
use Rattle.moka_shared.specs.declared.answers.TrySwing.TheVariants as swing
use Rattle.moka_shared.specs.declared.asked.Swinging.{Swinging}
use Rattle.moka_shared.specs.Links.{Follows}
use Rattle.moka_shared.specs.Probing.{GoesOn, IsLogOf}
use Rattle.moka_shared.specs.Rows.{Leaves}
use Rattle.moka_shared.specs.Steps.{Sees}
use Rattle.moka_shared.specs.Swings.{AreSet, HasSwung, MaySwing, Swings, SwingsSo, WantsSwing}
use Rattle.moka_shared.specs.Tables.{Table}
use Rattle.moka_shared.proofs.Loading.{first_rooted, kept_as, opened_more, opened_some}
use Rattle.moka_shared.proofs.Moved.{zero_first}

-- the first array is wholly sealed, since another one follows it
pub sealed_first : {hash : ℕ → ℕ} {same : ℕ → ℕ → Bool} {mine : ℕ → Bool} (m : Memory) → IsSound hash same mine m → (before array : ℕ) →
    array_at m 0 ≡ Some before → array_at m 1 ≡ Some array → 0 < m.rooted → IsSealed (m.words before)
sealed_first {hash} {same} {mine} m sound before array at next some = by m.rooted refl
  where
    by : (r : ℕ) → m.rooted ≡ r → IsSealed (m.words before)
    by zero is = absurd (omega (arith, is, some))
    by (suc zero) is =
        let root_first : root m ≡ Some before = ap (λ r. array_before m r) is ∙ at in
        subst (λ o. IsSealed (words_of m o)) root_first (sound.follows array (ap (λ r. array_at m r) is ∙ next)).sealed
    by (suc (suc r)) is = sound.left 0 before (omega (arith, is)) at

-- a number other than 0 names the root that was linked
named_root : (m : Memory) (links : List ℕ) (segment number : ℕ) → m.arrays ≡ suc segment ∷ links → number ≢ 0 → (r : ℕ) → m.rooted ≡ r →
    number ≡ root_named links r → root m ≡ Some number
named_root m links segment number chained some zero is names = absurd (some names)
named_root m links segment number chained some (suc zero) is names = absurd (some names)
named_root m links segment number chained some (suc (suc p)) is names =
    ap (λ r. array_before m r) is ∙ (ap (λ xs. slice_get xs (suc p)) chained ∙ by (slice_get links p) refl)
  where
    past : (xs : List ℕ) (k : ℕ) → slice_get xs k ≡ None → slice_index_or xs k 0 ≡ 0
    past [] k e = refl
    past (x ∷ xs) zero e = absurd (no_item (sym e))
    past (x ∷ xs) (suc k) e = past xs k e

    by : (o : Option ℕ) → slice_get links p ≡ o → slice_get links p ≡ Some number
    by None at = absurd (some (names ∙ past links p at))
    by (Some a) at = at ∙ ap Some (sym (names ∙ get_or links p a 0 at))

module _ {K V S : Type 0} (eq : K → K → Bool) (hash : S → K → ℕ) (place : S → ℕ → K → ℕ) (divided : IsDivided eq hash place) (t : Table S)
    (segment : ℕ) (below : segment < t.segments) where
  -- what follows after a front follows after a log, and what is set is set
  module _ (old log : List (Note K V S)) (y : IsLogOf eq hash place t old) (x : IsLogOf eq hash place t log) (begins : IsPrefix old log) where
    abbrev kept : IsKept eq hash place log
    kept = kept_as eq hash place t log x

    some : 0 < length old
    some = opened_some t.segments t.size t.hasher old y.opened

    is_front : IsFront old log
    is_front = record { some = some; begins = begins }

    lasts : Lasts eq (place t.hasher t.segments) (state_of old) (state_of log)
    lasts = lasts_now eq hash place log kept old is_front

    low : segment < (state_of old).segments
    low = (first_rooted eq hash place t old y segment below).within

    later : LaterMemory (same_by eq (keys_of (place t.hasher t.segments) (state_of log) segment)) (memory_of (state_of old) segment) (memory_of (state_of log) segment)
    later = lasts.later segment low (keys_of (place t.hasher t.segments) (state_of log) segment) (agrees_now (keys_of (place t.hasher t.segments) (state_of log) segment))

    module _ (array : ℕ) (keys : List ℕ) (follows : Follows segment array keys old) where
      words_later : LaterWords (same_by eq (keys_of (place t.hasher t.segments) (state_of log) segment)) (words_in (state_of old) array) (words_in (state_of log) array)
      words_later =
          let high = (link_high (state_of old) (good_now eq hash place old (kept_as eq hash place t old y)).linked segment 0 array follows.there).1 in
          later.words 1 array follows.there (omega (arith, high))

      pub follows_lasts : Follows segment array keys log
      follows_lasts = record {
        there = later.arrays 1 array follows.there;
        words = λ i k at. lasts.arrays array i k (follows.words i k at);
        long =
            sym (length-map ((state_of log).arrays array) (word_in (state_of log).cells)) ∙ (words_later.length_stays
            ∙ (length-map ((state_of old).arrays array) (word_in (state_of old).cells) ∙ follows.long));
      }

      pub set_lasts : (index : ℕ) → AreSet array index old → AreSet array index log
      set_lasts index set i inside unset = set i inside ((words_later.later i).set unset)

    abbrev pub swing_wanted : (array : ℕ) → WantsSwing eq hash place t.hasher t.segments segment array old → WantsSwing eq hash place t.hasher t.segments segment array log
    swing_wanted array w = record {
      key = w.key;
      call = w.call;
      stands = stands_now eq hash place divided t.segments t.size t.hasher old y.opened log kept begins segment w.key w.call
          (point.Swing (Some (suc segment)) array) tt w.stands;
    }

  -- a word of the array that was loaded
  module _ (old log : List (Note K V S)) (y : IsLogOf eq hash place t old) (array : ℕ) (keys : List ℕ) (follows : Follows segment array keys old)
      (index key : ℕ) (at : slice_get keys index ≡ Some key) (found : ℕ) (sees : Sees eq hash place key found old log) where
    loaded_log : IsLogOf eq hash place t log
    loaded_log = record { kept = sees.kept; opened = opened_more t.segments t.size t.hasher old log y.opened sees.begins; some = y.some }

    pub loaded_on : GoesOn eq hash place t old log
    loaded_on = record { begins = sees.begins; is_log = loaded_log }

    number_is : found ≡ number_of (word_at (words_in (state_of log) array) index)
    number_is =
        let there = (follows_lasts old log y loaded_log sees.begins array keys follows).words index key at in
        ap (λ c. c.0) (sym sees.holds ∙ ((cells_now eq hash place log (kept_as eq hash place t log loaded_log) (cells_of (state_of log)) refl).1 array index key there).1)

    pub loaded_unset : found ≡ 1 → word_at (words_in (state_of log) array) index ≡ Unset
    loaded_unset is = one_is_unset (word_at (words_in (state_of log) array) index) (sym number_is ∙ is)

    pub loaded_set : found ≢ 1 → AreSet array index old → AreSet array (index + 1) log
    loaded_set other set i inside unset = by (index_cases i inside)
      where
        by : (i < index) ⊎ (i ≡ index) → ⊥
        by (inl less) = set_lasts old log y loaded_log sees.begins array keys follows index set i less unset
        by (inr same) = other (number_is ∙ ap number_of (ap (λ n. word_at (words_in (state_of log) array) n) (sym same) ∙ unset))

        index_cases : (n : ℕ) → n < index + 1 → (n < index) ⊎ (n ≡ index)
        index_cases n low = elim (cases_lt n index) [ inl less ↦ inl less | inr more ↦ inr (omega (arith, low, more)) ]

  -- each word of the first array is sealed, where another one follows it
  pub first_sealed : (log : List (Note K V S)) → IsLogOf eq hash place t log → (array : ℕ) (keys : List ℕ) → Follows segment array keys log → (index : ℕ) → index < t.size →
      is_sealed (word_at (words_in (state_of log) (suc segment)) index) ≡ true
  first_sealed log x array keys follows index inside =
      let kept = kept_as eq hash place t log x in
      let good = good_now eq hash place log kept in
      let within = (first_rooted eq hash place t log x segment below).within in
      let known = keys_of (place t.hasher t.segments) (state_of log) segment in
      let long = length_now eq hash place log kept segment below in
      sealed_first (memory_of (state_of log) segment) (good.sound segment within known (agrees_now known)) (suc segment) array refl follows.there
      (good.linked.some segment within) index (omega (arith, inside, long))

  -- a call that has seen each word set
  module _ (log : List (Note K V S)) (x : IsLogOf eq hash place t log) (array : ℕ) (keys : List ℕ) (follows : Follows segment array keys log) where
    pub filled_wants : (count : ℕ) → count ≡ length keys → AreSet array count log → WantsSwing eq hash place t.hasher t.segments segment array log
    filled_wants count is set = record {
      key = None;
      call = record { kind = kind.Insert; hash = 0; spent = false; point = point.Swing (Some (suc segment)) array };
      stands = record {
        within = within;
        hashed = λ k e. absurd (no_item e);
        fits = λ ks agrees. record {
          place = 1;
          left = record {
            stands = record { there = refl; within = omega arith };
            rooted = omega (arith, was);
            sealed = sealed_first (memory_of (state_of log) segment) (good.sound segment within ks agrees) (suc segment) array refl follows.there was;
          };
          there = follows.there;
          set = λ i low.
              let long = follows.long in
              let words = length-map ((state_of log).arrays array) (word_in (state_of log).cells) in
              set i (omega (arith, low, long, words, is));
        };
        stands = refl;
      };
    }
      where
        good : IsGood eq (hash t.hasher) (place t.hasher t.segments) (state_of log) (entries_of log)
        good = good_now eq hash place log (kept_as eq hash place t log x)

        within : segment < (state_of log).segments
        within = (first_rooted eq hash place t log x segment below).within

        was : 0 < (state_of log).rooted segment
        was = good.linked.some segment within

  -- a root that may be swung
  module _ (log : List (Note K V S)) (x : IsLogOf eq hash place t log) (array : ℕ) (wants : WantsSwing eq hash place t.hasher t.segments segment array log)
      (root_key : ℕ) (root_key_is : root_key ≡ 1 + t.segments * t.size + t.segments + segment) where
    root_cell : (y : IsLogOf eq hash place t log) → (a : ℕ) × (slice_get (state_of log).cells root_key ≡ Some (Root segment a))
    root_cell y = let (a, at) = root_now eq hash place log (kept_as eq hash place t log y) segment below in (a, ap (slice_get (state_of log).cells) root_key_is ∙ at)

    pub may_swing : (asked : Swinging) → asked.segment ≡ segment → asked.from ≡ suc segment → asked.to ≡ array → MaySwing eq hash place root_key asked log
    may_swing asked segment_is from_is to_is = record {
      segments = t.segments;
      first = t.size;
      hasher = t.hasher;
      opened = x.opened;
      wants = subst (λ s. WantsSwing eq hash place t.hasher t.segments s asked.to log) (sym segment_is)
          (subst (λ a. WantsSwing eq hash place t.hasher t.segments segment a log) (sym to_is) wants);
      from_is = from_is ∙ ap suc (sym segment_is);
      number = (root_cell x).0;
      there = (root_cell x).1 ∙ ap (λ s. Some (Root s (root_cell x).0)) (sym segment_is);
    }

  -- the number that the root's word holds
  held_root : (new : List (Note K V S)) → IsLogOf eq hash place t new → (root_key number : ℕ) → root_key ≡ 1 + t.segments * t.size + t.segments + segment →
      cell (cells_of (state_of new)) root_key ≡ (number, true) → slice_get (state_of new).cells root_key ≡ Some (Root segment number)
  held_root new y root_key number root_key_is holds =
      let (a, at) = root_now eq hash place new (kept_as eq hash place t new y) segment below in
      let there = ap (slice_get (state_of new).cells) root_key_is ∙ at in
      let held = (cell_now eq hash place new (kept_as eq hash place t new y) (cells_of (state_of new)) refl root_key (Root segment a) there).1 in
      there ∙ ap (λ n. Some (Root segment n)) (ap (λ y. y.0) (sym held ∙ holds))

  module _ (log new : List (Note K V S)) (x : IsLogOf eq hash place t log) (array : ℕ) (wants : WantsSwing eq hash place t.hasher t.segments segment array log)
      (root_key : ℕ) (root_key_is : root_key ≡ 1 + t.segments * t.size + t.segments + segment) where
    -- it was swung
    module _ (leaves : Leaves eq hash place root_key 0 (Swung segment (suc segment) array) log new) where
      abbrev found : List (Note K V S)
      found = leaves.writes.log

      abbrev note : Note K V S
      note = Swung segment (suc segment) array

      found_log : IsLogOf eq hash place t found
      found_log = record { kept = leaves.writes.was_kept; opened = opened_more t.segments t.size t.hasher log found x.opened leaves.writes.begins; some = x.some }

      abbrev found_kept : IsKept eq hash place found
      found_kept = kept_as eq hash place t found found_log

      wanted_then : WantsSwing eq hash place t.hasher t.segments segment array found
      wanted_then = swing_wanted log found x found_log leaves.writes.begins array wants

      at_root : slice_get (state_of found).cells root_key ≡ Some (Root segment (root_number segment (suc segment)))
      at_root = held_root found found_log root_key 0 root_key_is leaves.writes.holds ∙ ap (λ n. Some (Root segment n)) (sym (zero_first segment))

      state_is : state_of new ≡ after {S = S} (state_of found) note
      state_is = ap state_of leaves.writes.more ∙ state_more unopened found note

      effect_then : (w : WantsSwing eq hash place t.hasher t.segments segment array found) →
          EffectAll eq (hash t.hasher) (keys_of (place t.hasher t.segments) (state_of found) segment) w.key (access_of w.call) seen.Swung
          (memory_of (state_of found) segment) (memory_of (state_of new) segment)
      effect_then w = subst (λ l. EffectAll eq (hash t.hasher) (keys_of (place t.hasher t.segments) (state_of found) segment) w.key (access_of w.call) seen.Swung
          (memory_of (state_of found) segment) (memory_of (state_of l) segment)) (sym leaves.writes.more)
          (swinging_effect eq hash place divided found found_kept (cells_of (state_of found)) refl segment (suc segment) array w.key w.call w.stands root_key at_root)

      pub swung_so : Swings eq hash place t segment log new array
      swung_so =
          let good = good_now eq hash place found found_kept in
          let w = wanted_then in record {
            found = found;
            begins = leaves.writes.begins;
            goes_on = (note ∷ [], sym leaves.writes.more);
            was = root_is S eq divided.laws (hash t.hasher) (place t.hasher t.segments) (divided.hashed t.hasher) (state_of found) (entries_of found) good
                segment (suc segment) array w.key w.call w.stands root_key at_root;
            is = subst (λ s. IsRooted s segment array) (sym state_is)
                (swung_rooted S eq divided.laws (hash t.hasher) (place t.hasher t.segments) (divided.hashed t.hasher) (state_of found) (entries_of found) good
                segment (suc segment) array w.key w.call w.stands root_key at_root);
            wanted = w;
            effect = effect_then;
          }

    -- the root is another one
    module _ (other : ℕ) (sees : Sees eq hash place root_key other log new) (is_some : other ≢ 0) where
      new_log : IsLogOf eq hash place t new
      new_log = record { kept = sees.kept; opened = opened_more t.segments t.size t.hasher log new x.opened sees.begins; some = x.some }

      good_new : IsGood eq (hash t.hasher) (place t.hasher t.segments) (state_of new) (entries_of new)
      good_new = good_now eq hash place new (kept_as eq hash place t new new_log)

      root_there : slice_get (state_of new).cells root_key ≡ Some (Root segment other)
      root_there = held_root new new_log root_key other root_key_is sees.holds

      not_zero : other ≢ root_number segment (suc segment)
      not_zero same = is_some (same ∙ zero_first segment)

      is_root : root (memory_of (state_of new) segment) ≡ Some other
      is_root = named_root (memory_of (state_of new) segment) ((state_of new).links segment) segment other refl is_some ((state_of new).rooted segment) refl
          (good_new.linked.roots root_key segment other root_there).1

      pub has_swung : HasSwung eq hash place t segment log new array other
      has_swung =
          let w = swing_wanted log new x new_log sees.begins array wants in record {
            is = is_root;
            not_first = λ same. root_other eq (hash t.hasher) (place t.hasher t.segments) (state_of new) (entries_of new) good_new
                segment (suc segment) array w.key w.call w.stands root_key other root_there not_zero (is_root ∙ ap Some same);
            wanted = w;
            effect = λ v. swing_there eq (hash t.hasher) (place t.hasher t.segments) (state_of new) (entries_of new) good_new
                segment (suc segment) array v.key v.call v.stands root_key other root_there not_zero;
          }

-- where an array follows there are notes
pub follows_some : {K V S : Type 0} (segment array : ℕ) (keys : List ℕ) (log : List (Note K V S)) → Follows segment array keys log → 0 < length log
follows_some segment array keys [] follows = absurd (no_item follows.there)
follows_some segment array keys (note ∷ log) follows = omega arith

module _ {K V S : Type 0} (eq : K → K → Bool) (hash : S → K → ℕ) (place : S → ℕ → K → ℕ) (divided : IsDivided eq hash place) (t : Table S)
    (segment : ℕ) (below : segment < t.segments) where
  -- what follows after what had been seen follows after what was learned
  pub follows_learned : (old log : List (Note K V S)) → IsLogOf eq hash place t log → IsPrefix old log → (array : ℕ) (keys : List ℕ) → Follows segment array keys old →
      Follows segment array keys log
  follows_learned old log x begins array keys follows =
      let is_front : IsFront old log = record { some = follows_some segment array keys old follows; begins = begins } in
      let kept = kept_as eq hash place t log x in
      let y : IsLogOf eq hash place t old =
      record { kept = kept_too eq hash place log kept old is_front; opened = opened_too eq hash place log kept old is_front; some = x.some } in
      follows_lasts eq hash place divided t segment below old log y x begins array keys follows

-- what became of a root that was to be swung, by who had seen less
pub swings_sooner : {K V S : Type 0} (eq : K → K → Bool) (hash : S → K → ℕ) (place : S → ℕ → K → ℕ) (t : Table S) (segment : ℕ) (old mid new : List (Note K V S)) →
    IsPrefix old mid → (array : ℕ) (answer : TrySwing) → SwingsSo eq hash place t segment mid new array answer → SwingsSo eq hash place t segment old new array answer
swings_sooner eq hash place t segment old mid new begins array swing.Swung s = record {
  found = s.found;
  begins = prefix_through old mid s.found begins s.begins;
  goes_on = s.goes_on;
  was = s.was;
  is = s.is;
  wanted = s.wanted;
  effect = s.effect;
}
swings_sooner eq hash place t segment old mid new begins array (swing.There other) s = record {
  is = s.is;
  not_first = s.not_first;
  wanted = s.wanted;
  effect = s.effect;
}
swings_sooner eq hash place t segment old mid new begins array (swing.Unset index) s = s
