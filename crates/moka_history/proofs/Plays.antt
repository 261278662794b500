-- Steps over the words of a book, whatever it is when they are made.
use Rattle.std.proofs.Common.{◌≡◌, ℕ, ◌+◌, ◌^◌, ◌<◌, ◌≤◌, ◌==◌, Bool, true, false, List, [], ◌∷◌, ◌++◌, length, set, Option, Some, None, suc, inl, inr, refl, sym, ap, subst, ◌∙◌, arith}
use Rattle.std.proofs.lemmas.Bool.{eqb-true}
use Rattle.std.proofs.lemmas.List.{append-nil}
use Rattle.std.specs.List.{slice_get}
use Rattle.std.specs.Option.{option_map}
use mathlib.Core.List.{IsPrefix}
use prog.Atomic.{either}
use Rattle.logbook.specs.Pages.{Away, Cell, Goes, Moves, Nib, adds, cell, gives, keeps, may_write, nib, no_nib, step}
use Rattle.moka_words.specs.declared.words.Word.{Word}
use Rattle.moka_words.specs.Words.{node_of, word_at}
use Rattle.moka_words.specs.Arrays.{bucket_at}
use Rattle.moka_growth.specs.Calls.{Call}
use Rattle.moka_growth.specs.Fits.{FitsAt, Rests}
use Rattle.moka_pairs.specs.Keys.{hash_by, own_for}
use Rattle.moka_pairs.specs.Pairs.{pair_at}
use Rattle.moka_pairs.proofs.Names.{agrees_now, hashed_by}
use Rattle.moka_history.specs.declared.note.Note.{Note}
use Rattle.moka_history.specs.declared.note.Note.TheVariants.{Announced, Changed}
use Rattle.moka_history.specs.States.{Ticket, State, key_at, memory_of, words_in}
use Rattle.moka_history.specs.Logs.{entry_of, entry_with, state_of}
use Rattle.moka_history.specs.Cells.{drawn, number_of}
use Rattle.moka_history.specs.Rules.{keys_of, IsFront, IsRooted, IsOpenedFor, IsKept, Holds}
use Rattle.moka_history.specs.Keeping.{Comes, IsDivided, IsSmall}
use Rattle.moka_history.specs.Moving.{Announces, Changes, HoldsThere, IsPlace, Looks, moved, shown}
use Rattle.moka_history.proofs.Fronts.{cell_now, cells_now, fits_more, fits_still, good_now, lasts_now, opened_too, segments_are, words_have_pairs}
use Rattle.moka_history.proofs.Lists.{get_or}
use Rattle.moka_history.proofs.Numbers.{numbers_tell}
use Rattle.moka_history.proofs.Resting.{rooted_through}
use Rattle.moka_history.proofs.Owners.{set_same}
use Rattle.moka_history.proofs.Stepping.{announcing_holds, changing_holds}

-- a log was opened in one way
pub opened_same : {K V S : Type 0} (n m a b : ℕ) (s t : S) (log : List (Note K V S)) → IsOpenedFor n a s log → IsOpenedFor m b t log → (n ≡ m) × (s ≡ t)
opened_same n m a b s t log p q = (cc (p.1, q.1), cc (p.1, q.1))

map_first : {A B C : Type 0} (f : A → C) (o : Option (A × B)) → option_map (λ p. f p.0) o ≡ option_map f (option_map (λ p. p.0) o)
map_first f None = refl
map_first f (Some p) = refl

module _ {K V S : Type 0} (eq : K → K → Bool) (hash : S → K → ℕ) (place : S → ℕ → K → ℕ) where
  -- a book and its log, of which a front was seen
  module _ (front : List (Note K V S)) (some : 0 < length front) (cs : List Cell) (log : List (Note K V S)) (holds : Holds eq hash place cs log) (pre : IsPrefix front log) where
    pub is_front : IsFront front log
    is_front = record { some = some; begins = pre }

    pub place_home : (key : ℕ) → IsPlace key front → (key < length cs) × ((cell cs key).1 ≡ true)
    place_home key at = elim at [
      | inl zero_is ↦ (
        subst (λ k. k < length cs) (sym zero_is) door.0,
        ap (λ k. (cell cs k).1) zero_is ∙ ap (λ x. x.1) door.1,
      )
      | inr there ↦ (
          let word = (cells_now eq hash place log holds.1 cs holds.0).1 there.0 there.1 key
          ((lasts_now eq hash place log holds.1 front is_front).arrays there.0 there.1 key there.2) in
          (word.0, ap (λ x. x.1) word.1)
          )
    ]
      where
        door : (0 < length cs) × (cell cs 0 ≡ (drawn (state_of log), true))
        door = (cells_now eq hash place log holds.1 cs holds.0).0

  module _ (cs : List Cell) (log : List (Note K V S)) (holds : Holds eq hash place cs log) (key : ℕ) (home : (cell cs key).1 ≡ true) where
    pub there : HoldsThere key (cell cs key).0 log
    there = ap (λ xs. cell xs key) (sym holds.0) ∙ ap (λ b. ((cell cs key).0, b)) home

    -- a step that leaves the word leaves the book
    pub same_holds : Holds eq hash place (set cs key ((cell cs key).0, true)) (log ++ [])
    same_holds = subst (λ l. Holds eq hash place (set cs key ((cell cs key).0, true)) l) (sym (append-nil log)) (set_same cs key home ∙ holds.0, holds.1)

    pub same_looks : (front : List (Note K V S)) (pen : Nib) (old new : ℕ) (ask : Note K V S) →
        Looks eq hash place (step key old new ask) (front, (pen, None)) (cell cs key).0 (log ++ [], (pen, None))
    same_looks front pen old new ask =
        subst (λ l. Looks eq hash place (step key old new ask) (front, (pen, None)) (cell cs key).0 (l, (pen, None))) (sym (append-nil log)) (holds.1, there, refl)

  pub look_moves : (front : List (Note K V S)) (key : ℕ) (ask : Note K V S) → 0 < length front → IsPlace key front →
      Moves (Holds eq hash place) shown moved key (front, (no_nib, None)) (λ n. n) (Looks eq hash place (step key 0 0 ask) (front, (no_nib, None)))
  look_moves front key ask some at cs log holds pre away =
      let here = place_home front some cs log holds pre key at in
      (here.0, here.1, (keeps, [], None, tt, same_holds cs log holds key here.1, inl (refl, refl), same_looks cs log holds key here.1 front no_nib 0 0 ask))

  module _ (divided : IsDivided eq hash place) where
    -- the next ticket
    module _ (front : List (Note K V S)) (count ticket : ℕ) (pair : Option (K × V)) (some : 0 < length front) (is : ticket ≡ (state_of front).segments + (count + 1))
        (small : ticket ≤ 2 ^ 60) where
      abbrev announced : Note K V S
      announced = Announced ticket pair

      module _ (cs : List Cell) (log : List (Note K V S)) (holds : Holds eq hash place cs log) (pre : IsPrefix front log) where
        abbrev then_now : State K V
        then_now = state_of log

        door_home : (0 < length cs) × ((cell cs 0).1 ≡ true)
        door_home = place_home front some cs log holds pre 0 (inl refl)

        draws : (b : Bool) → ((cell cs 0).0 == count) ≡ b →
            Goes (Holds eq hash place) shown moved 0 (front, (no_nib, None)) (λ n. either (n == count) (count + 1) n)
            (Announces eq hash place (step 0 count (count + 1) announced) (front, (no_nib, None))) cs log
        draws true e =
            let door = (cells_now eq hash place log holds.1 cs holds.0).0.1 in
            let count_is : drawn then_now ≡ count = sym (ap (λ x. x.0) door) ∙ eqb-true (cell cs 0).0 count e in
            let low = (good_now eq hash place log holds.1).drawn.first in
            let same = (lasts_now eq hash place log holds.1 front (record { some = some; begins = pre })).segments in
            let next : ticket ≡ suc then_now.last = omega (arith, count_is, low, same, is) in
            let one_more : suc (drawn then_now) ≡ count + 1 = omega (arith, count_is) in
            let all = announcing_holds eq hash place divided log holds.1 cs holds.0 ticket pair next small in
            let then : Holds eq hash place (set cs 0 (count + 1, true) ++ (0, false) ∷ []) (log ++ announced ∷ []) =
            subst (λ m. Holds eq hash place (set cs 0 (m, true) ++ (0, false) ∷ []) (log ++ announced ∷ [])) one_more all.0 in (
              adds,
              announced ∷ [],
              None,
              tt,
              rw e then,
              inl (refl, refl),
              rw e (record { log = log; begins = pre; was_kept = holds.1; there = there cs log holds 0 door_home.1; more = refl; kept = then.1 }, refl, all.1),
            )
        draws false e = (
          keeps,
          [],
          None,
          tt,
          rw e (same_holds cs log holds 0 door_home.1),
          inl (refl, refl),
          rw e (same_looks cs log holds 0 door_home.1 front no_nib count (count + 1) announced),
        )

      pub announcing_moves : Moves (Holds eq hash place) shown moved 0 (front, (no_nib, None)) (λ n. either (n == count) (count + 1) n)
          (Announces eq hash place (step 0 count (count + 1) announced) (front, (no_nib, None)))
      announcing_moves cs log holds pre away = ((door_home cs log holds pre).0, (door_home cs log holds pre).1, draws cs log holds pre ((cell cs 0).0 == count) refl)

    -- the exchange of a bucket
    module _ (segments size : ℕ) (hasher : S) (front : List (Note K V S)) (opened : IsOpenedFor segments size hasher front) (key : K) (c : Call)
        (array length_is passed : ℕ) (from to : Word) (x : Comes eq (hash hasher) (place hasher segments) (state_of front) key c array length_is passed from to)
        (small : IsSmall from) (bucket own ticket : ℕ) (was_home : Bool)
        (row : slice_get ((state_of front).arrays array) (bucket_at length_is c.hash passed) ≡ Some bucket)
        (at : slice_get (state_of front).cells own ≡ Some (Ticket ticket was_home)) where
      abbrev index : ℕ
      index = bucket_at length_is c.hash passed

      abbrev changed : Note K V S
      changed = Changed ticket array index to

      some : 0 < length front
      some = subst (λ l. 0 < length l) (sym opened.1) (omega arith)

      module _ (cs : List Cell) (log : List (Note K V S)) (holds : Holds eq hash place cs log) (pre : IsPrefix front log)
          (away : Away (nib may_write own 0) cs) where
        abbrev now : State K V
        now = state_of log

        abbrev kept : IsKept eq hash place log
        kept = holds.1

        abbrev Place : K → ℕ
        Place = place kept.hasher kept.segments

        seen : IsFront front log
        seen = record { some = some; begins = pre }

        same : (segments ≡ kept.segments) × (hasher ≡ kept.hasher)
        same = opened_same segments kept.segments size kept.size hasher kept.hasher front opened (opened_too eq hash place log kept front seen)

        came : Comes eq (hash kept.hasher) Place (state_of front) key c array length_is passed from to
        came = subst (λ s. Comes eq (hash s) (place s kept.segments) (state_of front) key c array length_is passed from to) same.1
            (subst (λ n. Comes eq (hash hasher) (place hasher n) (state_of front) key c array length_is passed from to) same.0 x)

        -- the bucket is one of an array of the call's segment that is its root, or was it
        root_now : IsRooted now (Place key) array
        root_now =
            let known = keys_of Place (state_of front) (Place key) in
            let rooted = (subst (λ q. FitsAt (hash_by (hash kept.hasher) known) (own_for eq known (Some key)) c.hash (memory_of (state_of front) (Place key)) q) came.comes
            (came.fits known (agrees_now known))).0.rooted in
            rooted_through eq Place (state_of front) now (lasts_now eq hash place log kept front seen) (Place key) array
            (record { within = came.within; rooted = rooted })

        within : Place key < kept.segments
        within = subst (λ n. Place key < n) (sym (lasts_now eq hash place log kept front seen).segments ∙ segments_are eq hash place log kept) came.within

        comes_now : Comes eq (hash kept.hasher) Place now key c array length_is passed from to
        comes_now = record {
          within = subst (λ n. Place key < n) (sym (segments_are eq hash place log kept)) within;
          hashed = came.hashed;
          fits = fits_still eq hash place log kept front seen (Place key) within (Some key) c divided (hashed_by (hash kept.hasher) key c came.hashed)
              (subst (λ q. Rests q) (sym came.comes) tt)
              (fits_more eq hash place log kept front seen (Place key) within (Some key) c (memory_of (state_of front) (Place key)) came.fits);
          comes = came.comes;
        }

        -- the cells
        row_now : slice_get (now.arrays array) index ≡ Some bucket
        row_now = (lasts_now eq hash place log kept front seen).arrays array index bucket row

        word : (bucket < length cs) × (cell cs bucket ≡ (number_of (word_at (words_in now array) index), true))
        word = (cells_now eq hash place log kept cs holds.0).1 array index bucket row_now

        home : (cell cs bucket).1 ≡ true
        home = ap (λ y. y.1) word.1

        own_now : slice_get now.cells own ≡ Some (Ticket ticket false)
        own_now =
            let (b, there_now, home_yet) = (lasts_now eq hash place log kept front seen).tickets own ticket was_home at in
            let held = cell_now eq hash place log kept cs holds.0 own (Ticket ticket b) there_now in
            let is_away : b ≡ false = sym (ap (λ y. y.1) held.1) ∙ (away refl).1 in
            there_now ∙ ap (λ y. Some (Ticket ticket y)) is_away

        now_small : IsSmall (word_at (words_in now array) index)
        now_small n names = (words_have_pairs eq hash place log kept (Place key) array root_now index n names).3

        changes : (b : Bool) → ((cell cs bucket).0 == number_of from) ≡ b →
            Goes (Holds eq hash place) shown moved bucket (front, (nib may_write own 0, None)) (λ n. either (n == number_of from) (number_of to) n)
            (Changes eq hash place (step bucket (number_of from) (number_of to) changed) (front, (nib may_write own 0, None))) cs log
        changes true e =
            let number : number_of (word_at (words_in now array) index) ≡ number_of from = sym (ap (λ y. y.0) word.1) ∙ eqb-true (cell cs bucket).0 (number_of from) e in
            let found = numbers_tell (word_at (words_in now array) index) from now_small small number in
            let (then, (k, named, equal, entries)) = changing_holds eq hash place divided log kept cs holds.0 key c array length_is passed from to
            (record { call = comes_now; found = found }) own ticket own_now in
            let key_is : key_at now array index ≡ bucket = get_or (now.arrays array) index bucket 0 row_now in
            let then_is : Holds eq hash place (set (set cs bucket (number_of to, true)) own (0, true)) (log ++ changed ∷ []) =
            subst (λ n. Holds eq hash place (set (set cs n (number_of to, true)) own (0, true)) (log ++ changed ∷ [])) key_is then in
            let entry : entry_of now changed ≡ Some (entry_with now.pairs ticket from to k) =
            map_first (entry_with now.pairs ticket (word_at (words_in now array) index) to) (pair_at now.pairs (node_of to))
            ∙ (ap (option_map (entry_with now.pairs ticket (word_at (words_in now array) index) to)) named
            ∙ ap (λ w. Some (entry_with now.pairs ticket w to k)) found) in (
              gives,
              changed ∷ [],
              None,
              refl,
              rw e then_is,
              inl (refl, refl),
              rw e (
                record { log = log; begins = pre; was_kept = kept; there = there cs log holds bucket home; more = refl; kept = then_is.1 },
                entry_with now.pairs ticket from to k,
                entry,
                entries,
              ),
            )
        changes false e = (
          keeps,
          [],
          None,
          tt,
          rw e (same_holds cs log holds bucket home),
          inl (refl, refl),
          rw e (same_looks cs log holds bucket home front (nib may_write own 0) (number_of from) (number_of to) changed),
        )

      pub changing_moves : Moves (Holds eq hash place) shown moved bucket (front, (nib may_write own 0, None))
          (λ n. either (n == number_of from) (number_of to) n)
          (Changes eq hash place (step bucket (number_of from) (number_of to) changed) (front, (nib may_write own 0, None)))
      changing_moves cs log holds pre away =
          ((word cs log holds pre away).0, home cs log holds pre away, changes cs log holds pre away ((cell cs bucket).0 == number_of from) refl)
