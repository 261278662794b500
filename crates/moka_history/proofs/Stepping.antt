-- Whole steps keep the rule.
use Rattle.std.proofs.Common.{◌≡◌, ℕ, ◌-◌, ◌^◌, ◌≤◌, Bool, true, false, List, [], ◌∷◌, ◌++◌, map, length, set, Option, Some, suc, inl, inr, refl, sym, ap, subst, ◌∙◌, arith, length-append}
use Rattle.std.proofs.lemmas.Bool.{false≢true}
use Rattle.std.proofs.lemmas.List.{append-nil, length-map}
use Rattle.std.specs.List.{slice_get}
use Rattle.std.specs.Option.{option_map, option_to_list}
use Rattle.logbook.specs.Pages.{Cell}
use Rattle.moka_words.specs.declared.words.Word.{Word}
use Rattle.moka_words.specs.Words.{is_sealed, node_of, word_at}
use Rattle.moka_words.specs.Arrays.{bucket_at}
use Rattle.moka_growth.specs.Calls.{Call}
use Rattle.moka_pairs.specs.Pairs.{pair_at}
use Rattle.moka_history.specs.declared.note.Note.{Note}
use Rattle.moka_history.specs.declared.note.Note.TheVariants.{Announced, Changed}
use Rattle.moka_history.specs.Entries.{Entry}
use Rattle.moka_history.specs.States.{Ticket, State, after, key_at, unopened, words_in}
use Rattle.moka_history.specs.Logs.{entries_of, entry_with, state_of}
use Rattle.moka_history.specs.Cells.{cell_of, cells_of, drawn, number_of}
use Rattle.moka_history.specs.Rules.{IsGood, IsRooted, Lasts, IsSameOrSealed, NamesSeal, IsKept, Holds}
use Rattle.moka_history.specs.Keeping.{IsDivided, Exchanges}
use Rattle.moka_history.proofs.Announcing.{announced_good, announced_lasts, announced_words}
use Rattle.moka_history.proofs.Exchanged.{changed_words, exchanged}
use Rattle.moka_history.proofs.Folds.{entries_more, state_more}
use Rattle.moka_history.proofs.Fronts.{good_now, seals_now}
use Rattle.moka_history.proofs.Lists.{last_get, map_more}
use Rattle.moka_history.proofs.Owners.{door_counts}
use Rattle.moka_history.proofs.Resting.{longer_kept, names_more}
use Rattle.moka_history.proofs.Sealing.{IsNoNewSeal}

module _ {K V S : Type 0} (eq : K → K → Bool) (hash : S → K → ℕ) (place : S → ℕ → K → ℕ) (divided : IsDivided eq hash place)
    (log : List (Note K V S)) (kept : IsKept eq hash place log) (cells : List Cell) (are : cells ≡ cells_of (state_of log)) where
  abbrev now : State K V
  now = state_of log

  abbrev Place : K → ℕ
  Place = place kept.hasher kept.segments

  good : IsGood eq (hash kept.hasher) Place now (entries_of log)
  good = good_now eq hash place log kept

  -- after one note more, with these entries
  module _ (note : Note K V S) (es : List (Entry K V)) (entries_are : entries_of (log ++ note ∷ []) ≡ es)
      (good_then : IsGood eq (hash kept.hasher) Place (after now note) es) (lasts_then : Lasts eq Place now (after now note))
      (words_then : length es ≡ length (entries_of log) → (i a index : ℕ) → IsRooted now i a →
      IsSameOrSealed (word_at (words_in now a) index) (word_at (words_in (after now note) a) index))
      (seals_then : (array index : ℕ) → IsNoNewSeal array index (word_at (words_in now array) index) (word_at (words_in (after now note) array) index) note) where
    state_is : state_of (log ++ note ∷ []) ≡ after now note
    state_is = state_more unopened log note

    named_then : (array index : ℕ) → is_sealed (word_at (words_in (after now note) array) index) ≡ true →
        NamesSeal array index (word_at (words_in (after now note) array) index) (log ++ note ∷ [])
    named_then array index sealed = by (seals_then array index)
      where
        by : IsNoNewSeal array index (word_at (words_in now array) index) (word_at (words_in (after now note) array) index) note →
            NamesSeal array index (word_at (words_in (after now note) array) index) (log ++ note ∷ [])
        by (inl same) = subst (λ w. NamesSeal array index w (log ++ note ∷ [])) (sym same)
            (names_more log note array index (word_at (words_in now array) index)
            (seals_now eq hash place log kept array index (ap is_sealed (sym same) ∙ sealed)))
        by (inr (inl bare)) = absurd (false≢true (sym bare ∙ sealed))
        by (inr (inr is)) = (length log, last_get log note ∙ ap Some is)

    kept_then : IsKept eq hash place (log ++ note ∷ [])
    kept_then = longer_kept eq hash place divided log note kept
        (subst (λ xs. IsGood eq (hash kept.hasher) Place (state_of (log ++ note ∷ [])) xs) (sym entries_are)
        (subst (λ s. IsGood eq (hash kept.hasher) Place s es) (sym state_is) good_then))
        (subst (λ s. Lasts eq Place now s) (sym state_is) lasts_then)
        (λ equal i a index r. subst (λ s. IsSameOrSealed (word_at (words_in now a) index) (word_at (words_in s a) index)) (sym state_is)
        (words_then (ap (λ xs. length xs) (sym entries_are) ∙ equal) i a index r))
        (subst (λ s. (array index : ℕ) → is_sealed (word_at (words_in s array) index) ≡ true →
        NamesSeal array index (word_at (words_in s array) index) (log ++ note ∷ [])) (sym state_is) named_then)

    pub holds_then : (new : List Cell) → new ≡ cells_of (after now note) → Holds eq hash place new (log ++ note ∷ [])
    holds_then new is = (is ∙ ap cells_of (sym state_is), kept_then)

  -- the next ticket is drawn
  module _ (ticket : ℕ) (pair : Option (K × V)) (is : ticket ≡ suc now.last) (small : ticket ≤ 2 ^ 60) where
    abbrev announced : Note K V S
    announced = Announced ticket pair

    one_more : ticket - now.segments ≡ suc (drawn now)
    one_more = let low = good.drawn.first in omega (arith, is, low)

    cells_then : set cells 0 (suc (drawn now), true) ++ (0, false) ∷ [] ≡ cells_of (after now announced)
    cells_then =
        ap (λ cs. set cs 0 (suc (drawn now), true) ++ (0, false) ∷ []) are
        ∙ (ap (λ cs. cs ++ (0, false) ∷ []) (door_counts now.cells (drawn now) (suc (drawn now)) ((good.owned.door 0).1 refl) (λ k. (good.owned.door k).0))
        ∙ (sym (map_more (cell_of (suc (drawn now))) now.cells (Ticket ticket false))
        ∙ ap (λ d. map (cell_of d) (now.cells ++ Ticket ticket false ∷ [])) (sym one_more)))

    announced_same : (array : ℕ) → words_in (after now announced) array ≡ words_in now array
    announced_same = announced_words S eq divided.laws (hash kept.hasher) Place (divided.hashed kept.hasher) now (entries_of log) good ticket pair is small

    long : length cells ≡ length now.cells
    long = ap (λ cs. length cs) are ∙ length-map now.cells (cell_of (drawn now))

    pub announcing_holds : Holds eq hash place (set cells 0 (suc (drawn now), true) ++ (0, false) ∷ []) (log ++ announced ∷ [])
        × (slice_get (state_of (log ++ announced ∷ [])).cells (length cells) ≡ Some (Ticket ticket false))
    announcing_holds = (
      holds_then announced (entries_of log) (entries_more unopened log announced ∙ append-nil (entries_of log))
          (announced_good S eq divided.laws (hash kept.hasher) Place (divided.hashed kept.hasher) now (entries_of log) good ticket pair is small)
          (announced_lasts S eq divided.laws (hash kept.hasher) Place (divided.hashed kept.hasher) now (entries_of log) good ticket pair is small)
          (λ equal i a index r. inl (ap (λ ws. word_at ws index) (announced_same a)))
          (λ array index. inl (ap (λ ws. word_at ws index) (announced_same array)))
          (set cells 0 (suc (drawn now), true) ++ (0, false) ∷ []) cells_then,
      ap (λ s. slice_get s.cells (length cells)) (state_more unopened log announced)
          ∙ (ap (slice_get (now.cells ++ Ticket ticket false ∷ [])) long ∙ last_get now.cells (Ticket ticket false)),
    )

  -- a word is exchanged
  module _ (key : K) (c : Call) (array size passed : ℕ) (from to : Word) (x : Exchanges eq (hash kept.hasher) Place now key c array size passed from to)
      (own ticket : ℕ) (there : slice_get now.cells own ≡ Some (Ticket ticket false)) where
    abbrev index : ℕ
    index = bucket_at size c.hash passed

    abbrev changed : Note K V S
    changed = Changed ticket array index to

    abbrev bucket : ℕ
    bucket = key_at now array index

    abbrev AddsEntry : Type 0
    AddsEntry = (k : K) × (option_map (λ p. p.0) (pair_at now.pairs (node_of to)) ≡ Some k) × (eq key k ≡ true)
        × (entries_of (log ++ changed ∷ []) ≡ entries_of log ++ entry_with now.pairs ticket from to k ∷ [])

    no_new : (a j : ℕ) → IsNoNewSeal a j (word_at (words_in now a) j) (word_at (words_in (after now changed) a) j) changed
    no_new a j = elim (changed_words S eq divided.laws (hash kept.hasher) Place (divided.hashed kept.hasher) (divided.placed kept.hasher kept.segments) now
        (entries_of log) good key c array size passed from to x own ticket there a j) [
          | inl same ↦ inl same
          | inr bare ↦ inr (inl bare)
        ]

    pub changing_holds : Holds eq hash place (set (set cells bucket (number_of to, true)) own (0, true)) (log ++ changed ∷ []) × AddsEntry
    changing_holds =
        let (k, is, same, entry, good_then, lasts_then, cells_then) =
        exchanged S eq divided.laws (hash kept.hasher) Place (divided.hashed kept.hasher) (divided.placed kept.hasher kept.segments) now (entries_of log) good
        key c array size passed from to x own ticket there in
        let entries_then : entries_of (log ++ changed ∷ []) ≡ entries_of log ++ entry_with now.pairs ticket from to k ∷ [] =
        entries_more unopened log changed ∙ ap (λ o. entries_of log ++ option_to_list o) entry in (
          holds_then changed (entries_of log ++ entry_with now.pairs ticket from to k ∷ []) entries_then good_then lasts_then
              (λ equal i a index r. absurd (let long = length-append (entries_of log) (entry_with now.pairs ticket from to k ∷ []) in omega (arith, equal, long)))
              (λ a j. no_new a j)
              (set (set cells bucket (number_of to, true)) own (0, true))
              (ap (λ cs. set (set cs bucket (number_of to, true)) own (0, true)) are ∙ cells_then (drawn now)),
          (k, is, same, entries_then),
        )
