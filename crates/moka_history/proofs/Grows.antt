-- Links, copies and swings over the words of a book, whatever it is when they are made.
use Rattle.std.proofs.Common.{◌≡◌, ℕ, ◌<◌, ◌==◌, Bool, true, false, List, [], ◌∷◌, ◌++◌, length, set, Option, Some, None, inl, inr, refl, sym, ap, subst, ◌∙◌, arith}
use Rattle.std.proofs.lemmas.Bool.{eqb-true, false≢true}
use Rattle.std.specs.List.{slice_get}
use mathlib.Core.List.{IsPrefix}
use prog.Atomic.{either}
use Rattle.logbook.specs.Pages.{Away, Cell, Goes, Moves, cell, gives, keeps, may_write, nib, no_nib, step}
use Rattle.moka_words.specs.declared.words.Word.{Word}
use Rattle.moka_words.specs.Words.{word_at}
use Rattle.moka_growth.specs.Calls.{Call, Point}
use Rattle.moka_growth.specs.Calls as call
use Rattle.moka_growth.specs.Fits.{Rests}
use Rattle.moka_growth.specs.Growing.{next_size}
use Rattle.moka_history.specs.declared.note.Note.{Note}
use Rattle.moka_history.specs.declared.note.Note.TheVariants.{ArrayLinked, Copied, Swung}
use Rattle.moka_history.specs.States.{Array, Next, Root, Row, State, key_at, memory_of, no_next, root_number, words_in}
use Rattle.moka_history.specs.Logs.{state_of}
use Rattle.moka_history.specs.Cells.{number_of}
use Rattle.moka_history.specs.Rules.{IsFront, IsKept, IsOpenedFor, IsRowStill, Holds, Lasts}
use Rattle.moka_history.specs.Keeping.{IsDivided, IsReady, StandsAt}
use Rattle.moka_history.specs.Moving.{Copies, Joins, MayLink, Swings, moved, shown}
use Rattle.moka_history.proofs.Fronts.{cell_now, cells_now, fits_more, fits_still, good_now, lasts_now, opened_too, segments_are}
use Rattle.moka_history.proofs.Lists.{one_item, get_or}
use Rattle.moka_history.proofs.Numbers.{one_is_unset}
use Rattle.moka_history.proofs.Owners.{array_is_array}
use Rattle.moka_history.proofs.Plays.{opened_same, same_holds, same_looks, there}
use Rattle.moka_history.proofs.Resting.{row_through}
use Rattle.moka_history.proofs.Steps.{copying_entries, copying_holds, linking_entries, linking_holds, swinging_entries, swinging_holds}

module _ {K V S : Type 0} (eq : K → K → Bool) (hash : S → K → ℕ) (place : S → ℕ → K → ℕ) (divided : IsDivided eq hash place)
    (segments first : ℕ) (hasher : S) (front : List (Note K V S)) (opened : IsOpenedFor segments first hasher front) where
  some : 0 < length front
  some = subst (λ l. 0 < length l) (sym opened.1) (omega arith)

  -- a call that stood somewhere after the front stands there after the log
  module _ (log : List (Note K V S)) (kept : IsKept eq hash place log) (pre : IsPrefix front log) where
    abbrev Place : K → ℕ
    Place = place kept.hasher kept.segments

    seen : IsFront front log
    seen = record { some = some; begins = pre }

    lasts : Lasts eq Place (state_of front) (state_of log)
    lasts = lasts_now eq hash place log kept front seen

    pub stands_now : (segment : ℕ) (key : Option K) (c : Call) (point : Point) → Rests point →
        StandsAt eq (hash hasher) (place hasher segments) (state_of front) segment key c point →
        StandsAt eq (hash kept.hasher) Place (state_of log) segment key c point
    stands_now segment key c point rests x =
        let (n, s) = opened_same segments kept.segments first kept.size hasher kept.hasher front opened (opened_too eq hash place log kept front seen) in
        let came : StandsAt eq (hash kept.hasher) Place (state_of front) segment key c point =
        subst (λ t. StandsAt eq (hash t) (place t kept.segments) (state_of front) segment key c point) s
        (subst (λ m. StandsAt eq (hash hasher) (place hasher m) (state_of front) segment key c point) n x) in
        let within : segment < kept.segments = subst (λ m. segment < m) (sym lasts.segments ∙ segments_are eq hash place log kept) came.within in
        record {
          within = subst (λ m. segment < m) (sym (segments_are eq hash place log kept)) within;
          hashed = came.hashed;
          fits = fits_still eq hash place log kept front seen segment within key c divided came.hashed (subst (λ q. Rests q) (sym came.stands) rests)
              (fits_more eq hash place log kept front seen segment within key c (memory_of (state_of front) segment) came.fits);
          stands = came.stands;
        }

  -- the word for the array after another one
  module _ (segment before size : ℕ) (nodes : List (ℕ × ℕ)) (key : Option K) (c : Call)
      (x : StandsAt eq (hash hasher) (place hasher segments) (state_of front) segment key c (call.Link (Some before) size nodes))
      (own ticket next : ℕ) (keys : List ℕ) (behind : ℕ) (may : MayLink (state_of front) segment before own ticket next keys behind)
      (length_is : length keys ≡ next_size (Some before) size (length nodes)) where
    abbrev linking : Note K V S
    linking = ArrayLinked ticket segment (Some before) keys behind

    abbrev none : ℕ
    none = no_next segment before

    module _ (cs : List Cell) (log : List (Note K V S)) (holds : Holds eq hash place cs log) (pre : IsPrefix front log) (away : Away (nib may_write own 0) cs) where
      abbrev now : State K V
      now = state_of log

      abbrev kept : IsKept eq hash place log
      kept = holds.1

      own_now : slice_get now.cells own ≡ Some (Array ticket false)
      own_now =
          let (b, there_now, home_yet) = (lasts log kept pre).announced own ticket may.home may.there in
          let held = cell_now eq hash place log kept cs holds.0 own (Array ticket b) there_now in
          let is_away : b ≡ false = sym (ap (λ y. y.1) held.1) ∙ (away refl).1 in
          there_now ∙ ap (λ y. Some (Array ticket y)) is_away

      next_now : (u : ℕ) × (slice_get now.cells next ≡ Some (Next before u))
      next_now = (lasts log kept pre).nexts next before may.array may.free

      held : (next < length cs) × (cell cs next ≡ (next_now.0, true))
      held = cell_now eq hash place log kept cs holds.0 next (Next before next_now.0) next_now.1

      home : (cell cs next).1 ≡ true
      home = ap (λ y. y.1) held.1

      row_by : (k : ℕ) → IsRowStill now k ticket true → slice_get now.cells k ≡ Some (Row ticket true)
      row_by k (inl (b, at, still)) = at ∙ ap (λ y. Some (Row ticket y)) (still refl)
      row_by k (inr (o, at, is, (j, there_now))) =
          let same = (good_now eq hash place log kept).owned.arrays j own ticket true false there_now own_now in
          absurd (false≢true (sym (array_is_array (one_item (sym there_now ∙ (ap (slice_get now.cells) same ∙ own_now)))).1))

      ready : next_now.0 ≡ none → IsReady now segment before own ticket next keys behind
      ready is_none = record {
        there = own_now;
        planned = (lasts log kept pre).plans ticket (record { segment = segment; size = length keys; grown = Some before }) may.planned;
        made = record {
          home = λ i k at. row_by k (row_through eq (place kept.hasher kept.segments)
              (state_of front) now (lasts log kept pre) k ticket true (may.each i k at));
          differ = may.differ;
          last = row_by behind (row_through eq (place kept.hasher kept.segments) (state_of front) now (lasts log kept pre) behind ticket true may.last);
          apart = may.apart;
        };
        free = next_now.1 ∙ ap (λ u. Some (Next before u)) is_none;
      }

      joins : (b : Bool) → ((cell cs next).0 == none) ≡ b →
          Goes (Holds eq hash place) shown moved next (front, (nib may_write own 0, None)) (λ n. either (n == none) ticket n)
          (Joins eq hash place (step next none ticket linking) (front, (nib may_write own 0, None))) cs log
      joins true e =
          let r = ready (sym (ap (λ y. y.0) held.1) ∙ eqb-true (cell cs next).0 none e) in
          let stands = stands_now log kept pre segment key c (call.Link (Some before) size nodes) tt x in
          let then = linking_holds eq hash place divided log kept cs holds.0 segment before size nodes key c stands own ticket next keys behind r length_is in (
            gives,
            linking ∷ [],
            None,
            refl,
            rw e then,
            inl (refl, refl),
            rw e (record {
              added = record { log = log; begins = pre; was_kept = kept; there = there eq hash place cs log holds next home; more = refl; kept = then.1 };
              ready = r;
              entries = linking_entries eq hash place divided log kept cs holds.0 segment before size nodes key c stands own ticket next keys behind r length_is;
            }),
          )
      joins false e = (
        keeps,
        [],
        None,
        tt,
        rw e (same_holds eq hash place cs log holds next home),
        inl (refl, refl),
        rw e (same_looks eq hash place cs log holds next home front (nib may_write own 0) none ticket linking),
      )

    pub linking_moves : Moves (Holds eq hash place) shown moved next (front, (nib may_write own 0, None)) (λ n. either (n == none) ticket n)
        (Joins eq hash place (step next none ticket linking) (front, (nib may_write own 0, None)))
    linking_moves cs log holds pre away = ((held cs log holds pre away).0, home cs log holds pre away, joins cs log holds pre away ((cell cs next).0 == none) refl)

  -- an unset word
  module _ (segment array index : ℕ) (from : Option ℕ) (laid : List Word) (key : Option K) (c : Call)
      (x : StandsAt eq (hash hasher) (place hasher segments) (state_of front) segment key c (call.Copy from array index laid))
      (bucket : ℕ) (row : slice_get ((state_of front).arrays array) index ≡ Some bucket) where
    abbrev to : Word
    to = word_at laid index

    abbrev copying : Note K V S
    copying = Copied array index to

    module _ (cs : List Cell) (log : List (Note K V S)) (holds : Holds eq hash place cs log) (pre : IsPrefix front log) where
      abbrev now_yet : State K V
      now_yet = state_of log

      abbrev kept_yet : IsKept eq hash place log
      kept_yet = holds.1

      row_there : slice_get (now_yet.arrays array) index ≡ Some bucket
      row_there = (lasts log kept_yet pre).arrays array index bucket row

      word : (bucket < length cs) × (cell cs bucket ≡ (number_of (word_at (words_in now_yet array) index), true))
      word = (cells_now eq hash place log kept_yet cs holds.0).1 array index bucket row_there

      word_home : (cell cs bucket).1 ≡ true
      word_home = ap (λ y. y.1) word.1

      copies : (b : Bool) → ((cell cs bucket).0 == 1) ≡ b →
          Goes (Holds eq hash place) shown moved bucket (front, (no_nib, None)) (λ n. either (n == 1) (number_of to) n)
          (Copies eq hash place (step bucket 1 (number_of to) copying) (front, (no_nib, None))) cs log
      copies true e =
          let unset = one_is_unset (word_at (words_in now_yet array) index) (sym (ap (λ y. y.0) word.1) ∙ eqb-true (cell cs bucket).0 1 e) in
          let stands = stands_now log kept_yet pre segment key c (call.Copy from array index laid) tt x in
          let key_is : key_at now_yet array index ≡ bucket = get_or (now_yet.arrays array) index bucket 0 row_there in
          let then : Holds eq hash place (set cs bucket (number_of to, true)) (log ++ copying ∷ []) =
          subst (λ n. Holds eq hash place (set cs n (number_of to, true)) (log ++ copying ∷ [])) key_is
          (copying_holds eq hash place divided log kept_yet cs holds.0 segment array index from laid key c stands unset) in (
            keeps,
            copying ∷ [],
            None,
            tt,
            rw e then,
            inl (refl, refl),
            rw e (
              record { log = log; begins = pre; was_kept = kept_yet; there = there eq hash place cs log holds bucket word_home; more = refl; kept = then.1 },
              copying_entries eq hash place divided log kept_yet cs holds.0 segment array index from laid key c stands unset,
            ),
          )
      copies false e = (
        keeps,
        [],
        None,
        tt,
        rw e (same_holds eq hash place cs log holds bucket word_home),
        inl (refl, refl),
        rw e (same_looks eq hash place cs log holds bucket word_home front no_nib 1 (number_of to) copying),
      )

    pub copying_moves : Moves (Holds eq hash place) shown moved bucket (front, (no_nib, None)) (λ n. either (n == 1) (number_of to) n)
        (Copies eq hash place (step bucket 1 (number_of to) copying) (front, (no_nib, None)))
    copying_moves cs log holds pre away = ((word cs log holds pre).0, word_home cs log holds pre, copies cs log holds pre ((cell cs bucket).0 == 1) refl)

  -- the word for a segment's root
  module _ (segment from to : ℕ) (key : Option K) (c : Call)
      (x : StandsAt eq (hash hasher) (place hasher segments) (state_of front) segment key c (call.Swing (Some from) to))
      (root number : ℕ) (root_there : slice_get (state_of front).cells root ≡ Some (Root segment number)) where
    abbrev was : ℕ
    was = root_number segment from

    abbrev swinging : Note K V S
    swinging = Swung segment from to

    module _ (cs : List Cell) (log : List (Note K V S)) (holds : Holds eq hash place cs log) (pre : IsPrefix front log) where
      abbrev state_now : State K V
      state_now = state_of log

      abbrev kept_now : IsKept eq hash place log
      kept_now = holds.1

      named_now : (u : ℕ) × (slice_get state_now.cells root ≡ Some (Root segment u))
      named_now = (lasts log kept_now pre).roots root segment number root_there

      root_held : (root < length cs) × (cell cs root ≡ (named_now.0, true))
      root_held = cell_now eq hash place log kept_now cs holds.0 root (Root segment named_now.0) named_now.1

      root_home : (cell cs root).1 ≡ true
      root_home = ap (λ y. y.1) root_held.1

      swings : (b : Bool) → ((cell cs root).0 == was) ≡ b →
          Goes (Holds eq hash place) shown moved root (front, (no_nib, None)) (λ n. either (n == was) to n)
          (Swings eq hash place (step root was to swinging) (front, (no_nib, None))) cs log
      swings true e =
          let is : named_now.0 ≡ was = sym (ap (λ y. y.0) root_held.1) ∙ eqb-true (cell cs root).0 was e in
          let there_yet : slice_get state_now.cells root ≡ Some (Root segment was) = named_now.1 ∙ ap (λ u. Some (Root segment u)) is in
          let stands = stands_now log kept_now pre segment key c (call.Swing (Some from) to) tt x in
          let then = swinging_holds eq hash place divided log kept_now cs holds.0 segment from to key c stands root there_yet in (
            keeps,
            swinging ∷ [],
            None,
            tt,
            rw e then,
            inl (refl, refl),
            rw e (
              record { log = log; begins = pre; was_kept = kept_now; there = there eq hash place cs log holds root root_home; more = refl; kept = then.1 },
              swinging_entries eq hash place divided log kept_now cs holds.0 segment from to key c stands root there_yet,
            ),
          )
      swings false e = (
        keeps,
        [],
        None,
        tt,
        rw e (same_holds eq hash place cs log holds root root_home),
        inl (refl, refl),
        rw e (same_looks eq hash place cs log holds root root_home front no_nib was to swinging),
      )

    pub swinging_moves : Moves (Holds eq hash place) shown moved root (front, (no_nib, None)) (λ n. either (n == was) to n)
        (Swings eq hash place (step root was to swinging) (front, (no_nib, None)))
    swinging_moves cs log holds pre away = ((root_held cs log holds pre).0, root_home cs log holds pre, swings cs log holds pre ((cell cs root).0 == was) refl)
