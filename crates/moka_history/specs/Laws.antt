-- What holds of histories.
use Rattle.std.specs.Prelude.{◌≡◌, ◌≢◌, ℕ, suc, ◌<◌, Bool, true, false, List, [], ◌∷◌, ◌++◌, length, Option, Some}
use Rattle.std.specs.List.{slice_get}
use Rattle.std.specs.Cmp.{IsEquivalence}
use Rattle.std.specs.Int.{IsPowerOfTwo}
use Rattle.std.specs.Option.{option_to_list}
use Rattle.moka_hist.specs.Finite.{put_key}
use Rattle.moka_words.specs.declared.words.Word.{Word}
use Rattle.moka_words.specs.Words.{node_of, stored_in}
use Rattle.moka_words.specs.Effect.{Memory, Links, SetsWord, Swings, IsUnchanged}
use Rattle.moka_growth.specs.Sound.{IsSound}
use Rattle.moka_growth.specs.Maps.{Finds, ChangesMap}
use Rattle.moka_pairs.specs.Keys.{Respects, own_by}
use Rattle.moka_pairs.specs.Pairs.{AreKeysOf, map_of}
use Rattle.moka_pairs.specs.Segments.{SoundAll}
use Rattle.moka_history.specs.declared.note.Note.{Note}
use Rattle.moka_history.specs.declared.note.Note.TheVariants.{Opened, Announced, Changed, ArrayAnnounced, CellAdded, CellHome, Sealed, ArrayLinked, Copied, Swung}
use Rattle.moka_history.specs.Entries.{Entry, IsLegal, map_after, pair_put}
use Rattle.moka_history.specs.States.{Row, State, IsPlaced, after, memory_of, numbered, unopened, words_in}
use Rattle.moka_history.specs.Logs.{entries_of, entry_of, entry_with, state_of}

abbrev pub MapGoesOn : (K V : Type 0) → Type 0
MapGoesOn K V =
    (eq : K → K → Bool) (es : List (Entry K V)) (e : Entry K V) (q : K) →
    map_after eq (es ++ e ∷ []) q ≡ put_key eq (map_after eq es) e.key (pair_put e) q

abbrev pub LegalGoesOn : (K V : Type 0) → Type 0
LegalGoesOn K V =
    (eq : K → K → Bool) (es : List (Entry K V)) (e : Entry K V) → IsLegal eq es →
    e.former ≡ map_after eq es e.key → IsLegal eq (es ++ e ∷ [])

abbrev pub LegalWasLegal : (K V : Type 0) → Type 0
LegalWasLegal K V =
    (eq : K → K → Bool) (es more : List (Entry K V)) → IsLegal eq (es ++ more) → IsLegal eq es

-- the key's node was changed from what one word stored to what another stores
abbrev pub ChangeIsMaps : (K V : Type 0) → Type 0
ChangeIsMaps K V =
    (eq : K → K → Bool) → IsEquivalence eq → (hash : K → ℕ) → Respects eq hash →
    (known : ℕ → Option K) (pairs : ℕ → Option (K × V)) → AreKeysOf known pairs →
    (old new : Memory) → SoundAll eq hash known old → SoundAll eq hash known new →
    (ticket : ℕ) (from to : Word) (n : ℕ) (key : K) → node_of to ≡ Some n →
    known n ≡ Some key → Finds (own_by eq known key) old (stored_in from) →
    ChangesMap (own_by eq known key) (stored_in from) (stored_in to) old new →
    let e : Entry K V = entry_with pairs ticket from to key in
    (e.former ≡ map_of eq old known pairs key)
    × ((q : K) → map_of eq new known pairs q
    ≡ put_key eq (map_of eq old known pairs) key (pair_put e) q)

abbrev pub StateGoesOn : (K V S : Type 0) → Type 0
StateGoesOn K V S =
    (log : List (Note K V S)) (note : Note K V S) →
    state_of (log ++ note ∷ []) ≡ after (state_of log) note

abbrev pub EntriesGoOn : (K V S : Type 0) → Type 0
EntriesGoOn K V S =
    (log : List (Note K V S)) (note : Note K V S) →
    entries_of (log ++ note ∷ [])
    ≡ entries_of log ++ option_to_list (entry_of (state_of log) note)

-- whatever the hashes are and whichever numbers have one key
abbrev pub OpenedIsSound : (K V S : Type 0) → Type 0
OpenedIsSound K V S =
    (hash : ℕ → ℕ) (same : ℕ → ℕ → Bool) (mine : ℕ → Bool) (segments length i : ℕ) (hasher : S) →
    IsPowerOfTwo length → i < segments →
    let s : State K V = after unopened (Opened segments length hasher) in
    IsSound hash same mine (memory_of s i) × IsPlaced s

abbrev pub AnnouncedKeepsWords : (K V S : Type 0) → Type 0
AnnouncedKeepsWords K V S =
    (s : State K V) (ticket : ℕ) (pair : Option (K × V)) (note : Note K V S) → IsPlaced s →
    note ≡ Announced ticket pair →
    ((a : ℕ) → words_in (after s note) a ≡ words_in s a) × IsPlaced (after s note)

abbrev pub ChangedSetsWord : (K V S : Type 0) → Type 0
ChangedSetsWord K V S =
    (s : State K V) (ticket array index : ℕ) (to : Word) (note : Note K V S) → IsPlaced s →
    note ≡ Changed ticket array index to → index < length (s.arrays array) → (segment : ℕ) →
    SetsWord array index to (memory_of s segment) (memory_of (after s note) segment)
    × IsPlaced (after s note)

-- the note announces an array, adds a cell to a row, or brings a cell of one home
abbrev pub IsOfRow : {K V S : Type 0} → State K V → Note K V S → Type 0
IsOfRow s (ArrayAnnounced ticket segment length grown) = Unit {0}
IsOfRow s (CellAdded ticket) = Unit {0}
IsOfRow s (CellHome ticket cell) = slice_get s.cells cell ≡ Some (Row ticket false)
IsOfRow s (Opened segments length hasher) = ⊥
IsOfRow s (Announced ticket pair) = ⊥
IsOfRow s (Changed ticket array index to) = ⊥
IsOfRow s (Sealed array index to) = ⊥
IsOfRow s (ArrayLinked ticket segment grown keys behind) = ⊥
IsOfRow s (Copied array index to) = ⊥
IsOfRow s (Swung segment from to) = ⊥

abbrev pub RowsKeepWords : (K V S : Type 0) → Type 0
RowsKeepWords K V S =
    (s : State K V) (note : Note K V S) → IsPlaced s → IsOfRow s note →
    ((a : ℕ) → words_in (after s note) a ≡ words_in s a) × IsPlaced (after s note)

abbrev pub SealedSetsWord : (K V S : Type 0) → Type 0
SealedSetsWord K V S =
    (s : State K V) (array index : ℕ) (to : Word) (note : Note K V S) → IsPlaced s →
    note ≡ Sealed array index to → index < length (s.arrays array) → (segment : ℕ) →
    SetsWord array index to (memory_of s segment) (memory_of (after s note) segment)
    × IsPlaced (after s note)

abbrev pub CopiedSetsWord : (K V S : Type 0) → Type 0
CopiedSetsWord K V S =
    (s : State K V) (array index : ℕ) (to : Word) (note : Note K V S) → IsPlaced s →
    note ≡ Copied array index to → index < length (s.arrays array) → (segment : ℕ) →
    SetsWord array index to (memory_of s segment) (memory_of (after s note) segment)
    × IsPlaced (after s note)

-- the keys, and the one behind them, are those of different cells of the ticket's row, which are home
pub record AreMade {K V : Type 0} (s : State K V) (ticket : ℕ) (keys : List ℕ) (behind : ℕ) : Type 0
  where
    pub home : (i k : ℕ) → slice_get keys i ≡ Some k → slice_get s.cells k ≡ Some (Row ticket true)
    pub differ : (i j k : ℕ) → slice_get keys i ≡ Some k → slice_get keys j ≡ Some k → i ≡ j
    pub last : slice_get s.cells behind ≡ Some (Row ticket true)
    pub apart : (i k : ℕ) → slice_get keys i ≡ Some k → k ≢ behind

-- whatever number comes next, a link of an array of this number is one of unset words
abbrev pub LinkAddsArray : (K V S : Type 0) → Type 0
LinkAddsArray K V S =
    (s : State K V) (ticket segment : ℕ) (grown : Option ℕ) (keys : List ℕ) (behind : ℕ)
    (note : Note K V S) → note ≡ ArrayLinked ticket segment grown keys behind →
    AreMade s ticket keys behind →
    Links (length keys) (numbered ticket (memory_of s segment))
    (numbered (suc ticket) (memory_of (after s note) segment))

-- the array after a segment's root becomes its root, and other segments stay
abbrev pub SwungMovesRoot : (K V S : Type 0) → Type 0
SwungMovesRoot K V S =
    (s : State K V) (segment from to : ℕ) (note : Note K V S) → IsPlaced s →
    note ≡ Swung segment from to →
    Swings (memory_of s segment) (memory_of (after s note) segment)
    × ((i : ℕ) → i ≢ segment → IsUnchanged (memory_of s i) (memory_of (after s note) i))
    × IsPlaced (after s note)
