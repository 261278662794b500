-- Steps of rows and seals over the words of a book, whatever it is when they are made.
use Rattle.std.proofs.Common.{◌≡◌, ℕ, ◌+◌, ◌^◌, ◌<◌, ◌≤◌, ◌==◌, Bool, true, false, List, [], ◌∷◌, ◌++◌, length, set, Option, Some, None, IsSome, suc, inl, inr, refl, sym, ap, subst, ◌∙◌, arith}
use Rattle.std.proofs.lemmas.Bool.{eqb-true, false≢true}
use Rattle.std.proofs.lemmas.List.{length-map}
use Rattle.std.specs.List.{slice_get}
use Rattle.std.specs.Option.{is_some}
use mathlib.Core.List.{IsPrefix}
use prog.Atomic.{either}
use Rattle.logbook.specs.Pages.{Away, Cell, Goes, Moves, adds, cell, gives, keeps, may_write, nib, no_nib, step}
use Rattle.moka_words.specs.declared.words.Word.{Word}
use Rattle.moka_words.specs.Words.{is_sealed, word_at}
use Rattle.moka_growth.specs.Fits.{HasBeenRoot}
use Rattle.moka_growth.specs.Growing.{seal_of}
use Rattle.moka_pairs.specs.Keys.{Agrees}
use Rattle.moka_history.specs.declared.note.Note.{Note}
use Rattle.moka_history.specs.declared.note.Note.TheVariants.{ArrayAnnounced, CellAdded, CellHome, Sealed}
use Rattle.moka_history.specs.States.{Owner, Door, Bucket, Ticket, Array, Row, Next, Root, State, key_at, memory_of, word_in, words_in}
use Rattle.moka_history.specs.Logs.{state_of}
use Rattle.moka_history.specs.Cells.{cell_of, drawn, number_of}
use Rattle.moka_history.specs.Rules.{IsFront, IsOfArray, IsRooted, IsRowStill, IsKept, Holds}
use Rattle.moka_history.specs.Keeping.{IsBare, IsDivided, IsSmall}
use Rattle.moka_history.specs.Moving.{Adds, AnnouncesArray, BringsHome, IsHome, Seals, moved, shown}
use Rattle.moka_history.proofs.Fronts.{cell_now, cells_now, good_now, lasts_now, words_have_pairs}
use Rattle.moka_history.proofs.Lists.{get_below, get_or}
use Rattle.moka_history.proofs.Numbers.{numbers_tell}
use Rattle.moka_history.proofs.Owners.{set_same}
use Rattle.moka_history.proofs.Plays.{place_home, same_holds, same_looks, there}
use Rattle.moka_history.proofs.Resting.{rooted_through, row_through}
use Rattle.moka_history.proofs.Steps.{adding_cell, adding_entries, adding_holds, announcing_cell, announcing_entries, announcing_holds, announcing_plan, bringing_cell, bringing_entries, bringing_holds, sealing_entries, sealing_holds}

-- an exchange for the number that was expected leaves what it meets
either_same : (n left : ℕ) → either (n == left) left n ≡ n
either_same n left = by (n == left) refl
  where
    by : (b : Bool) → (n == left) ≡ b → either b left n ≡ n
    by true e = sym (eqb-true n left e)
    by false e = refl

agrees_some : {A : Type 0} (more known : ℕ → Option A) → Agrees more known → (n : ℕ) → IsSome (known n) → IsSome (more n)
agrees_some {A} more known agrees n has = by (known n) refl has
  where
    by : (o : Option A) → known n ≡ o → IsSome o → IsSome (more n)
    by None e h = absurd (false≢true h)
    by (Some a) e h = ap is_some (agrees n a e)

-- a cell of an array is home
of_array_home : (d : ℕ) (o : Owner) → IsOfArray o → (cell_of d o).1 ≡ true
of_array_home d Door is = absurd is
of_array_home d (Bucket w) is = refl
of_array_home d (Ticket n b) is = absurd is
of_array_home d (Array n b) is = absurd is
of_array_home d (Row n b) is = absurd is
of_array_home d (Next a u) is = refl
of_array_home d (Root i u) is = absurd is

module _ {K V S : Type 0} (eq : K → K → Bool) (hash : S → K → ℕ) (place : S → ℕ → K → ℕ) (divided : IsDivided eq hash place)
    (front : List (Note K V S)) (some : 0 < length front) where
  -- the next ticket, for an array
  module _ (count ticket segment size : ℕ) (grown : Option ℕ) (is : ticket ≡ (state_of front).segments + (count + 1)) (small : ticket ≤ 2 ^ 60)
      (low_number : (g : ℕ) → grown ≡ Some g → g ≤ (state_of front).last) where
    abbrev announced : Note K V S
    announced = ArrayAnnounced ticket segment size grown

    module _ (cs : List Cell) (log : List (Note K V S)) (holds : Holds eq hash place cs log) (pre : IsPrefix front log) where
      abbrev then_now : State K V
      then_now = state_of log

      door_home : (0 < length cs) × ((cell cs 0).1 ≡ true)
      door_home = place_home eq hash place front some cs log holds pre 0 (inl refl)

      draws : (b : Bool) → ((cell cs 0).0 == count) ≡ b →
          Goes (Holds eq hash place) shown moved 0 (front, (no_nib, None)) (λ n. either (n == count) (count + 1) n)
          (AnnouncesArray eq hash place (step 0 count (count + 1) announced) (front, (no_nib, None))) cs log
      draws true e =
          let door = (cells_now eq hash place log holds.1 cs holds.0).0.1 in
          let count_is : drawn then_now ≡ count = sym (ap (λ x. x.0) door) ∙ eqb-true (cell cs 0).0 count e in
          let low = (good_now eq hash place log holds.1).drawn.first in
          let same = (lasts_now eq hash place log holds.1 front (record { some = some; begins = pre })).segments in
          let next : ticket ≡ suc then_now.last = omega (arith, count_is, low, same, is) in
          let last = (lasts_now eq hash place log holds.1 front (record { some = some; begins = pre })).last in
          let low_now : (g : ℕ) → grown ≡ Some g → g ≤ then_now.last = λ g names. (let before = low_number g names in omega (arith, before, last)) in
          let one_more : suc (drawn then_now) ≡ count + 1 = omega (arith, count_is) in
          let then : Holds eq hash place (set cs 0 (count + 1, true) ++ (0, false) ∷ []) (log ++ announced ∷ []) =
          subst (λ m. Holds eq hash place (set cs 0 (m, true) ++ (0, false) ∷ []) (log ++ announced ∷ [])) one_more
          (announcing_holds eq hash place divided log holds.1 cs holds.0 ticket segment size grown next small low_now) in (
            adds,
            announced ∷ [],
            None,
            tt,
            rw e then,
            inl (refl, refl),
            rw e (record {
              added = record { log = log; begins = pre; was_kept = holds.1; there = there eq hash place cs log holds 0 door_home.1; more = refl; kept = then.1 };
              makes = refl;
              cell = (
                announcing_cell eq hash place divided log holds.1 cs holds.0 ticket segment size grown next small low_now,
                announcing_plan eq hash place divided log holds.1 cs holds.0 ticket segment size grown next small low_now,
              );
              entries = announcing_entries eq hash place divided log holds.1 cs holds.0 ticket segment size grown next small low_now;
            }),
          )
      draws false e = (
        keeps,
        [],
        None,
        tt,
        rw e (same_holds eq hash place cs log holds 0 door_home.1),
        inl (refl, refl),
        rw e (same_looks eq hash place cs log holds 0 door_home.1 front no_nib count (count + 1) announced),
      )

    pub array_announcing_moves : Moves (Holds eq hash place) shown moved 0 (front, (no_nib, None)) (λ n. either (n == count) (count + 1) n)
        (AnnouncesArray eq hash place (step 0 count (count + 1) announced) (front, (no_nib, None)))
    array_announcing_moves cs log holds pre away = ((door_home cs log holds pre).0, (door_home cs log holds pre).1, draws cs log holds pre ((cell cs 0).0 == count) refl)

  -- a word that is home
  module _ (key : ℕ) (home : IsHome key front) (cs : List Cell) (log : List (Note K V S)) (holds : Holds eq hash place cs log) (pre : IsPrefix front log) where
    abbrev is_front : IsFront front log
    is_front = record { some = some; begins = pre }

    key_home : (key < length cs) × ((cell cs key).1 ≡ true)
    key_home = elim home [
      | inl at ↦ place_home eq hash place front some cs log holds pre key at
      | inr row ↦ by row.0 (row_through eq (place holds.1.hasher holds.1.segments)
          (state_of front) (state_of log) (lasts_now eq hash place log holds.1 front is_front) key row.0 true row.1)
    ]
      where
        by : (ticket : ℕ) → IsRowStill (state_of log) key ticket true → (key < length cs) × ((cell cs key).1 ≡ true)
        by ticket (inl (c, there_now, stays)) =
            let held = cell_now eq hash place log holds.1 cs holds.0 key (Row ticket c) there_now in
            (held.0, ap (λ x. x.1) held.1 ∙ stays refl)
        by ticket (inr (o, there_now, is, own)) =
            let held = cell_now eq hash place log holds.1 cs holds.0 key o there_now in
            (held.0, ap (λ x. x.1) held.1 ∙ of_array_home (drawn (state_of log)) o is)

    -- the exchange leaves the cells
    left_cells : (left : ℕ) → set cs key (either ((cell cs key).0 == left) left (cell cs key).0, true) ≡ cs
    left_cells left = ap (λ n. set cs key (n, true)) (either_same (cell cs key).0 left) ∙ set_same cs key key_home.1

  -- a cell is added to a row
  module _ (key left ticket : ℕ) (home : IsHome key front) (has : IsSome ((state_of front).plans ticket)) where
    pub cell_adding_moves : Moves (Holds eq hash place) shown moved key (front, (no_nib, None)) (λ n. either (n == left) left n)
        (Adds eq hash place (step key left left (CellAdded ticket)) (front, (no_nib, None)))
    cell_adding_moves cs log holds pre away =
        let here = key_home key home cs log holds pre in
        let has_now = agrees_some (state_of log).plans (state_of front).plans
        (lasts_now eq hash place log holds.1 front (record { some = some; begins = pre })).plans ticket has in
        let then = adding_holds eq hash place divided log holds.1 cs holds.0 ticket has_now in (
          here.0,
          here.1,
          (
            adds,
            CellAdded ticket ∷ [],
            None,
            tt,
            subst (λ c. Holds eq hash place (c ++ (0, false) ∷ []) (log ++ CellAdded ticket ∷ [])) (sym (left_cells key home cs log holds pre left)) then,
            inl (refl, refl),
            record {
              added = record { log = log; begins = pre; was_kept = holds.1; there = there eq hash place cs log holds key here.1; more = refl; kept = then.1 };
              makes = refl;
              cell = adding_cell eq hash place divided log holds.1 cs holds.0 ticket has_now;
              entries = adding_entries eq hash place divided log holds.1 cs holds.0 ticket has_now;
            },
          ),
        )

  -- it comes home
  module _ (key left own ticket : ℕ) (was_home : Bool) (home : IsHome key front) (at : slice_get (state_of front).cells own ≡ Some (Row ticket was_home)) where
    row_now : (cs : List Cell) (log : List (Note K V S)) (holds : Holds eq hash place cs log) (pre : IsPrefix front log) → Away (nib may_write own 1) cs →
        slice_get (state_of log).cells own ≡ Some (Row ticket false)
    row_now cs log holds pre away =
        by ((lasts_now eq hash place log holds.1 front (record { some = some; begins = pre })).rows own ticket was_home at)
      where
        by : IsRowStill (state_of log) own ticket was_home → slice_get (state_of log).cells own ≡ Some (Row ticket false)
        by (inl (c, there_now, stays)) =
            let held = cell_now eq hash place log holds.1 cs holds.0 own (Row ticket c) there_now in
            let is_away : c ≡ false = sym (ap (λ y. y.1) held.1) ∙ (away refl).1 in
            there_now ∙ ap (λ y. Some (Row ticket y)) is_away
        by (inr (o, there_now, of_array, home_now)) =
            let held = cell_now eq hash place log holds.1 cs holds.0 own o there_now in
            absurd (false≢true (sym (away refl).1 ∙ (ap (λ y. y.1) held.1 ∙ of_array_home (drawn (state_of log)) o of_array)))

    pub cell_bringing_moves : Moves (Holds eq hash place) shown moved key (front, (nib may_write own 1, None)) (λ n. either (n == left) left n)
        (BringsHome eq hash place (step key left left (CellHome ticket own)) (front, (nib may_write own 1, None)))
    cell_bringing_moves cs log holds pre away =
        let here = key_home key home cs log holds pre in
        let row = row_now cs log holds pre away in
        let then = bringing_holds eq hash place divided log holds.1 cs holds.0 ticket own row in (
          here.0,
          here.1,
          (
            gives,
            CellHome ticket own ∷ [],
            None,
            refl,
            subst (λ c. Holds eq hash place (set c own (1, true)) (log ++ CellHome ticket own ∷ [])) (sym (left_cells key home cs log holds pre left)) then,
            inl (refl, refl),
            record {
              added = record { log = log; begins = pre; was_kept = holds.1; there = there eq hash place cs log holds key here.1; more = refl; kept = then.1 };
              home = bringing_cell eq hash place divided log holds.1 cs holds.0 ticket own row;
              entries = bringing_entries eq hash place divided log holds.1 cs holds.0 ticket own row;
            },
          ),
        )

  -- the exchange of a bucket for its seal
  module _ (segment array index bucket : ℕ) (within : segment < (state_of front).segments) (rooted : HasBeenRoot (memory_of (state_of front) segment) array)
      (row : slice_get ((state_of front).arrays array) index ≡ Some bucket) (word : Word) (small : IsSmall word) (bare : is_sealed word ≡ false) where
    abbrev seal : Note K V S
    seal = Sealed array index (seal_of word)

    module _ (cs : List Cell) (log : List (Note K V S)) (holds : Holds eq hash place cs log) (pre : IsPrefix front log) where
      abbrev now : State K V
      now = state_of log

      abbrev kept : IsKept eq hash place log
      kept = holds.1

      seen : IsFront front log
      seen = record { some = some; begins = pre }

      within_now : segment < now.segments
      within_now = subst (λ n. segment < n) (sym (lasts_now eq hash place log kept front seen).segments) within

      row_there : slice_get (now.arrays array) index ≡ Some bucket
      row_there = (lasts_now eq hash place log kept front seen).arrays array index bucket row

      held : (bucket < length cs) × (cell cs bucket ≡ (number_of (word_at (words_in now array) index), true))
      held = (cells_now eq hash place log kept cs holds.0).1 array index bucket row_there

      home : (cell cs bucket).1 ≡ true
      home = ap (λ y. y.1) held.1

      rooted_now : IsRooted now segment array
      rooted_now = rooted_through eq (place kept.hasher kept.segments) (state_of front) now (lasts_now eq hash place log kept front seen) segment array
          (record { within = within; rooted = rooted })

      now_small : IsSmall (word_at (words_in now array) index)
      now_small n names = (words_have_pairs eq hash place log kept segment array rooted_now index n names).3

      open_now : word_at (words_in now array) index ≡ word → IsBare now segment array index word
      open_now found = record {
        within = within_now;
        rooted = rooted_now.rooted;
        inside = (let inside = get_below (now.arrays array) index bucket row_there in let long = length-map (now.arrays array) (word_in now.cells) in omega (arith, inside, long));
        there = found;
        bare = bare;
      }

      seals : (b : Bool) → ((cell cs bucket).0 == number_of word) ≡ b →
          Goes (Holds eq hash place) shown moved bucket (front, (no_nib, None)) (λ n. either (n == number_of word) (number_of (seal_of word)) n)
          (Seals eq hash place (step bucket (number_of word) (number_of (seal_of word)) seal) (front, (no_nib, None))) cs log
      seals true e =
          let number : number_of (word_at (words_in now array) index) ≡ number_of word = sym (ap (λ y. y.0) held.1) ∙ eqb-true (cell cs bucket).0 (number_of word) e in
          let found = open_now (numbers_tell (word_at (words_in now array) index) word now_small small number) in
          let key_is : key_at now array index ≡ bucket = get_or (now.arrays array) index bucket 0 row_there in
          let then : Holds eq hash place (set cs bucket (number_of (seal_of word), true)) (log ++ seal ∷ []) =
          subst (λ n. Holds eq hash place (set cs n (number_of (seal_of word), true)) (log ++ seal ∷ [])) key_is
          (sealing_holds eq hash place divided log kept cs holds.0 segment array index word found) in (
            keeps,
            seal ∷ [],
            None,
            tt,
            rw e then,
            inl (refl, refl),
            rw e (
              record { log = log; begins = pre; was_kept = kept; there = there eq hash place cs log holds bucket home; more = refl; kept = then.1 },
              sealing_entries eq hash place divided log kept cs holds.0 segment array index word found,
            ),
          )
      seals false e = (
        keeps,
        [],
        None,
        tt,
        rw e (same_holds eq hash place cs log holds bucket home),
        inl (refl, refl),
        rw e (same_looks eq hash place cs log holds bucket home front no_nib (number_of word) (number_of (seal_of word)) seal),
      )

    pub sealing_moves : Moves (Holds eq hash place) shown moved bucket (front, (no_nib, None)) (λ n. either (n == number_of word) (number_of (seal_of word)) n)
        (Seals eq hash place (step bucket (number_of word) (number_of (seal_of word)) seal) (front, (no_nib, None)))
    sealing_moves cs log holds pre away =
        ((held cs log holds pre).0, home cs log holds pre, seals cs log holds pre ((cell cs bucket).0 == number_of word) refl)
