-- Whole steps of rows, seals, links, copies and swings keep the rule.
use Rattle.std.proofs.Common.{◌≡◌, ℕ, ◌-◌, ◌^◌, ◌≤◌, Bool, true, false, List, [], ◌∷◌, ◌++◌, map, length, set, Option, Some, IsSome, suc, inl, refl, sym, ap, subst, ◌∙◌, arith}
use Rattle.std.proofs.lemmas.List.{append-nil, length-map}
use Rattle.std.specs.List.{slice_get}
use Rattle.logbook.specs.Pages.{Cell}
use Rattle.moka_words.specs.declared.words.Word.{Word}
use Rattle.moka_words.specs.declared.words.Word.TheVariants.{Unset}
use Rattle.moka_words.specs.declared.accesses.Seen.TheVariants as seen
use Rattle.moka_words.specs.Words.{word_at}
use Rattle.moka_growth.specs.Calls.{Call, access_of}
use Rattle.moka_growth.specs.Calls as call
use Rattle.moka_growth.specs.Growing.{next_size, seal_of}
use Rattle.moka_pairs.specs.Segments.{EffectAll}
use Rattle.moka_history.specs.declared.note.Note.{Note}
use Rattle.moka_history.specs.declared.note.Note.TheVariants.{ArrayAnnounced, ArrayLinked, CellAdded, CellHome, Copied, Sealed, Swung}
use Rattle.moka_history.specs.States.{Owner, Array, Row, Root, State, after, key_at, memory_of, numbered, root_number, unopened, words_in}
use Rattle.moka_history.specs.Logs.{entries_of, state_of}
use Rattle.moka_history.specs.Cells.{cell_of, cells_of, drawn, number_of}
use Rattle.moka_history.specs.Rules.{keys_of, IsGood, IsKept, Holds}
use Rattle.moka_history.specs.Keeping.{IsBare, IsDivided, IsReady, StandsAt}
use Rattle.moka_history.proofs.Copying.{copied_cells, copied_effect, copied_good, copied_lasts, copied_note, copied_words}
use Rattle.moka_history.proofs.Folds.{entries_more, state_more}
use Rattle.moka_history.proofs.Fronts.{good_now}
use Rattle.moka_history.proofs.Linking.{linked_cells, linked_effect, linked_good, linked_lasts, linked_note, linked_words}
use Rattle.moka_history.proofs.Lists.{last_get, map_more, map_set}
use Rattle.moka_history.proofs.Owners.{door_counts}
use Rattle.moka_history.proofs.Rows.{added_good, added_lasts, home_good, home_lasts, home_there, plan_there, planned_good, planned_lasts, rows_keep}
use Rattle.moka_history.proofs.Sealing.{sealed_cells, sealed_good, sealed_lasts, sealed_note, sealed_words}
use Rattle.moka_history.proofs.Stepping.{holds_then}
use Rattle.moka_history.proofs.Swinging.{swung_effect, swung_good, swung_holds, swung_lasts, swung_note, swung_words}

module _ {K V S : Type 0} (eq : K → K → Bool) (hash : S → K → ℕ) (place : S → ℕ → K → ℕ) (divided : IsDivided eq hash place)
    (log : List (Note K V S)) (kept : IsKept eq hash place log) (cells : List Cell) (are : cells ≡ cells_of (state_of log)) where
  abbrev now : State K V
  now = state_of log

  abbrev Place : K → ℕ
  Place = place kept.hasher kept.segments

  good : IsGood eq (hash kept.hasher) Place now (entries_of log)
  good = good_now eq hash place log kept

  long : length cells ≡ length now.cells
  long = ap (λ cs. length cs) are ∙ length-map now.cells (cell_of (drawn now))

  -- the next ticket is drawn for an array
  module _ (ticket segment size : ℕ) (grown : Option ℕ) (is : ticket ≡ suc now.last) (small : ticket ≤ 2 ^ 60)
      (low_number : (g : ℕ) → grown ≡ Some g → g ≤ now.last) where
    abbrev announced : Note K V S
    announced = ArrayAnnounced ticket segment size grown

    abbrev cell : Owner
    cell = Array ticket false

    state_is : state_of (log ++ announced ∷ []) ≡ after now announced
    state_is = state_more unopened log announced

    pub announcing_entries : entries_of (log ++ announced ∷ []) ≡ entries_of log
    announcing_entries = entries_more unopened log announced ∙ append-nil (entries_of log)

    one_more : ticket - now.segments ≡ suc (drawn now)
    one_more = let low = good.drawn.first in omega (arith, is, low)

    cells_then : set cells 0 (suc (drawn now), true) ++ (0, false) ∷ [] ≡ cells_of (after now announced)
    cells_then =
        ap (λ cs. set cs 0 (suc (drawn now), true) ++ (0, false) ∷ []) are
        ∙ (ap (λ cs. cs ++ (0, false) ∷ []) (door_counts now.cells (drawn now) (suc (drawn now)) ((good.owned.door 0).1 refl) (λ k. (good.owned.door k).0))
        ∙ (sym (map_more (cell_of (suc (drawn now))) now.cells cell)
        ∙ ap (λ d. map (cell_of d) (now.cells ++ cell ∷ [])) (sym one_more)))

    same : (array : ℕ) → words_in (after now announced) array ≡ words_in now array
    same = (rows_keep now announced good.owned.places tt).0

    pub announcing_holds : Holds eq hash place (set cells 0 (suc (drawn now), true) ++ (0, false) ∷ []) (log ++ announced ∷ [])
    announcing_holds = holds_then eq hash place divided log kept cells are announced (entries_of log) announcing_entries
        (planned_good S eq divided.laws (hash kept.hasher) Place (divided.hashed kept.hasher) now (entries_of log) good ticket segment size grown is small low_number)
        (planned_lasts S eq divided.laws (hash kept.hasher) Place (divided.hashed kept.hasher) now (entries_of log) good ticket segment size grown is small low_number)
        (λ equal i a index r. inl (ap (λ ws. word_at ws index) (same a)))
        (λ array index. inl (ap (λ ws. word_at ws index) (same array)))
        (set cells 0 (suc (drawn now), true) ++ (0, false) ∷ []) cells_then

    pub announcing_cell : slice_get (state_of (log ++ announced ∷ [])).cells (length cells) ≡ Some (Array ticket false)
    announcing_cell = ap (λ s. slice_get s.cells (length cells)) state_is
        ∙ (ap (slice_get (now.cells ++ cell ∷ [])) long ∙ last_get now.cells cell)

    pub announcing_plan : (state_of (log ++ announced ∷ [])).plans ticket ≡ Some (record { segment = segment; size = size; grown = grown })
    announcing_plan = ap (λ s. s.plans ticket) state_is
        ∙ plan_there S eq divided.laws (hash kept.hasher) Place (divided.hashed kept.hasher) now (entries_of log) good ticket segment size grown is small low_number

  -- a cell is added to a row
  module _ (ticket : ℕ) (has : IsSome (now.plans ticket)) where
    abbrev adding : Note K V S
    adding = CellAdded ticket

    pub adding_entries : entries_of (log ++ adding ∷ []) ≡ entries_of log
    adding_entries = entries_more unopened log adding ∙ append-nil (entries_of log)

    adding_same : (array : ℕ) → words_in (after now adding) array ≡ words_in now array
    adding_same = (rows_keep now adding good.owned.places tt).0

    pub adding_holds : Holds eq hash place (cells ++ (0, false) ∷ []) (log ++ adding ∷ [])
    adding_holds = holds_then eq hash place divided log kept cells are adding (entries_of log) adding_entries
        (added_good S eq divided.laws (hash kept.hasher) Place (divided.hashed kept.hasher) now (entries_of log) good ticket has)
        (added_lasts S eq divided.laws (hash kept.hasher) Place (divided.hashed kept.hasher) now (entries_of log) good ticket has)
        (λ equal i a index r. inl (ap (λ ws. word_at ws index) (adding_same a)))
        (λ array index. inl (ap (λ ws. word_at ws index) (adding_same array)))
        (cells ++ (0, false) ∷ [])
        (ap (λ cs. cs ++ (0, false) ∷ []) are ∙ sym (map_more (cell_of (drawn now)) now.cells (Row ticket false)))

    pub adding_cell : slice_get (state_of (log ++ adding ∷ [])).cells (length cells) ≡ Some (Row ticket false)
    adding_cell = ap (λ s. slice_get s.cells (length cells)) (state_more unopened log adding)
        ∙ (ap (slice_get (now.cells ++ Row ticket false ∷ [])) long ∙ last_get now.cells (Row ticket false))

  -- it comes home
  module _ (ticket key : ℕ) (at : slice_get now.cells key ≡ Some (Row ticket false)) where
    abbrev bringing : Note K V S
    bringing = CellHome ticket key

    pub bringing_entries : entries_of (log ++ bringing ∷ []) ≡ entries_of log
    bringing_entries = entries_more unopened log bringing ∙ append-nil (entries_of log)

    bringing_same : (array : ℕ) → words_in (after now bringing) array ≡ words_in now array
    bringing_same = (rows_keep now bringing good.owned.places at).0

    pub bringing_holds : Holds eq hash place (set cells key (1, true)) (log ++ bringing ∷ [])
    bringing_holds = holds_then eq hash place divided log kept cells are bringing (entries_of log) bringing_entries
        (home_good S eq divided.laws (hash kept.hasher) Place (divided.hashed kept.hasher) now (entries_of log) good ticket key at)
        (home_lasts S eq divided.laws (hash kept.hasher) Place (divided.hashed kept.hasher) now (entries_of log) good ticket key at)
        (λ equal i a index r. inl (ap (λ ws. word_at ws index) (bringing_same a)))
        (λ array index. inl (ap (λ ws. word_at ws index) (bringing_same array)))
        (set cells key (1, true))
        (ap (λ cs. set cs key (1, true)) are ∙ sym (map_set (cell_of (drawn now)) now.cells key (Row ticket true)))

    pub bringing_cell : slice_get (state_of (log ++ bringing ∷ [])).cells key ≡ Some (Row ticket true)
    bringing_cell = ap (λ s. slice_get s.cells key) (state_more unopened log bringing)
        ∙ home_there S eq divided.laws (hash kept.hasher) Place (divided.hashed kept.hasher) now (entries_of log) good ticket key at

  -- a word is sealed
  module _ (segment array index : ℕ) (word : Word) (x : IsBare now segment array index word) where
    abbrev sealing : Note K V S
    sealing = Sealed array index (seal_of word)

    pub sealing_entries : entries_of (log ++ sealing ∷ []) ≡ entries_of log
    sealing_entries = entries_more unopened log sealing ∙ append-nil (entries_of log)

    pub sealing_holds : Holds eq hash place (set cells (key_at now array index) (number_of (seal_of word), true)) (log ++ sealing ∷ [])
    sealing_holds = holds_then eq hash place divided log kept cells are sealing (entries_of log) sealing_entries
        (sealed_good S eq divided.laws (hash kept.hasher) Place (divided.hashed kept.hasher) now (entries_of log) good segment array index word x)
        (sealed_lasts S eq divided.laws (hash kept.hasher) Place (divided.hashed kept.hasher) now (entries_of log) good segment array index word x)
        (λ equal i a j r. sealed_words S eq divided.laws (hash kept.hasher) Place (divided.hashed kept.hasher) now (entries_of log) good segment array index word x a j)
        (sealed_note S eq divided.laws (hash kept.hasher) Place (divided.hashed kept.hasher) now (entries_of log) good segment array index word x)
        (set cells (key_at now array index) (number_of (seal_of word), true))
        (ap (λ cs. set cs (key_at now array index) (number_of (seal_of word), true)) are
        ∙ sealed_cells S eq divided.laws (hash kept.hasher) Place (divided.hashed kept.hasher) now (entries_of log) good segment array index word x (drawn now))

  -- an array is linked
  module _ (segment before size : ℕ) (nodes : List (ℕ × ℕ)) (key : Option K) (c : Call)
      (x : StandsAt eq (hash kept.hasher) Place now segment key c (call.Link (Some before) size nodes)) (own ticket next : ℕ) (keys : List ℕ) (behind : ℕ)
      (r : IsReady now segment before own ticket next keys behind) (length_is : length keys ≡ next_size (Some before) size (length nodes)) where
    abbrev linking : Note K V S
    linking = ArrayLinked ticket segment (Some before) keys behind

    pub linking_entries : entries_of (log ++ linking ∷ []) ≡ entries_of log
    linking_entries = entries_more unopened log linking ∙ append-nil (entries_of log)

    pub linking_holds : Holds eq hash place (set (set cells next (ticket, true)) own (0, true)) (log ++ linking ∷ [])
    linking_holds = holds_then eq hash place divided log kept cells are linking (entries_of log) linking_entries
        (linked_good S eq divided.laws (hash kept.hasher) Place (divided.hashed kept.hasher) now (entries_of log) good segment before size nodes key c x own ticket next keys behind r length_is)
        (linked_lasts S eq divided.laws (hash kept.hasher) Place (divided.hashed kept.hasher) now (entries_of log) good segment before size nodes key c x own ticket next keys behind r length_is)
        (λ equal i a j k. linked_words S eq divided.laws (hash kept.hasher) Place (divided.hashed kept.hasher) now (entries_of log) good
        segment before size nodes key c x own ticket next keys behind r length_is i a j k)
        (linked_note S eq divided.laws (hash kept.hasher) Place (divided.hashed kept.hasher) now (entries_of log) good segment before size nodes key c x own ticket next keys behind r length_is)
        (set (set cells next (ticket, true)) own (0, true))
        (ap (λ cs. set (set cs next (ticket, true)) own (0, true)) are
        ∙ linked_cells S eq divided.laws (hash kept.hasher) Place (divided.hashed kept.hasher) now (entries_of log) good
        segment before size nodes key c x own ticket next keys behind r length_is (drawn now))

    pub linking_effect : EffectAll eq (hash kept.hasher) (keys_of Place now segment) key (access_of c) (seen.Linked ticket (length keys))
        (numbered ticket (memory_of now segment)) (numbered (suc ticket) (memory_of (state_of (log ++ linking ∷ [])) segment))
    linking_effect = subst (λ s. EffectAll eq (hash kept.hasher) (keys_of Place now segment) key (access_of c) (seen.Linked ticket (length keys))
        (numbered ticket (memory_of now segment)) (numbered (suc ticket) (memory_of s segment))) (sym (state_more unopened log linking))
        (linked_effect S eq divided.laws (hash kept.hasher) Place (divided.hashed kept.hasher) now (entries_of log) good
        segment before size nodes key c x own ticket next keys behind r length_is)

  -- a word is copied
  module _ (segment array index : ℕ) (from : Option ℕ) (laid : List Word) (key : Option K) (c : Call)
      (x : StandsAt eq (hash kept.hasher) Place now segment key c (call.Copy from array index laid)) (unset : word_at (words_in now array) index ≡ Unset) where
    abbrev copying : Note K V S
    copying = Copied array index (word_at laid index)

    pub copying_entries : entries_of (log ++ copying ∷ []) ≡ entries_of log
    copying_entries = entries_more unopened log copying ∙ append-nil (entries_of log)

    pub copying_holds : Holds eq hash place (set cells (key_at now array index) (number_of (word_at laid index), true)) (log ++ copying ∷ [])
    copying_holds = holds_then eq hash place divided log kept cells are copying (entries_of log) copying_entries
        (copied_good S eq divided.laws (hash kept.hasher) Place (divided.hashed kept.hasher) now (entries_of log) good segment array index from laid key c x unset)
        (copied_lasts S eq divided.laws (hash kept.hasher) Place (divided.hashed kept.hasher) now (entries_of log) good segment array index from laid key c x unset)
        (λ equal i a j r. copied_words S eq divided.laws (hash kept.hasher) Place (divided.hashed kept.hasher) now (entries_of log) good
        segment array index from laid key c x unset i a j r)
        (copied_note S eq divided.laws (hash kept.hasher) Place (divided.hashed kept.hasher) now (entries_of log) good segment array index from laid key c x unset)
        (set cells (key_at now array index) (number_of (word_at laid index), true))
        (ap (λ cs. set cs (key_at now array index) (number_of (word_at laid index), true)) are
        ∙ copied_cells S eq divided.laws (hash kept.hasher) Place (divided.hashed kept.hasher) now (entries_of log) good
        segment array index from laid key c x unset (drawn now))

    pub copying_effect : EffectAll eq (hash kept.hasher) (keys_of Place now segment) key (access_of c) seen.Copied
        (memory_of now segment) (memory_of (state_of (log ++ copying ∷ [])) segment)
    copying_effect = subst (λ s. EffectAll eq (hash kept.hasher) (keys_of Place now segment) key (access_of c) seen.Copied
        (memory_of now segment) (memory_of s segment)) (sym (state_more unopened log copying))
        (copied_effect S eq divided.laws (hash kept.hasher) Place (divided.hashed kept.hasher) now (entries_of log) good segment array index from laid key c x unset)

  -- the root is swung
  module _ (segment from to : ℕ) (key : Option K) (c : Call)
      (x : StandsAt eq (hash kept.hasher) Place now segment key c (call.Swing (Some from) to)) (root : ℕ)
      (there : slice_get now.cells root ≡ Some (Root segment (root_number segment from))) where
    abbrev swinging : Note K V S
    swinging = Swung segment from to

    pub swinging_entries : entries_of (log ++ swinging ∷ []) ≡ entries_of log
    swinging_entries = entries_more unopened log swinging ∙ append-nil (entries_of log)

    pub swinging_holds : Holds eq hash place (set cells root (to, true)) (log ++ swinging ∷ [])
    swinging_holds = holds_then eq hash place divided log kept cells are swinging (entries_of log) swinging_entries
        (swung_good S eq divided.laws (hash kept.hasher) Place (divided.hashed kept.hasher) now (entries_of log) good segment from to key c x root there)
        (swung_lasts S eq divided.laws (hash kept.hasher) Place (divided.hashed kept.hasher) now (entries_of log) good segment from to key c x root there)
        (λ equal i a j r. swung_words S eq divided.laws (hash kept.hasher) Place (divided.hashed kept.hasher) now (entries_of log) good
        segment from to key c x root there a j)
        (swung_note S eq divided.laws (hash kept.hasher) Place (divided.hashed kept.hasher) now (entries_of log) good segment from to key c x root there)
        (set cells root (to, true))
        (ap (λ cs. set cs root (to, true)) are
        ∙ swung_holds S eq divided.laws (hash kept.hasher) Place (divided.hashed kept.hasher) now (entries_of log) good
        segment from to key c x root there (drawn now))

    pub swinging_effect : EffectAll eq (hash kept.hasher) (keys_of Place now segment) key (access_of c) seen.Swung
        (memory_of now segment) (memory_of (state_of (log ++ swinging ∷ [])) segment)
    swinging_effect = subst (λ s. EffectAll eq (hash kept.hasher) (keys_of Place now segment) key (access_of c) seen.Swung
        (memory_of now segment) (memory_of s segment)) (sym (state_more unopened log swinging))
        (swung_effect S eq divided.laws (hash kept.hasher) Place (divided.hashed kept.hasher) now (entries_of log) good segment from to key c x root there)
