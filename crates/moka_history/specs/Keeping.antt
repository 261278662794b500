-- What holds of the rule: laws of whole steps, of fronts, and of what a caller finds after one.
use Rattle.std.specs.Prelude.{◌≡◌, ◌≢◌, ℕ, suc, ◌+◌, ◌*◌, ◌^◌, ◌<◌, ◌≤◌, ◌⊎◌, Bool, true, false, cond, List, [], ◌∷◌, ◌++◌, length, replicate, Option, Some, IsSome, slice_set}
use Rattle.std.specs.Cmp.{IsEquivalence}
use Rattle.std.specs.Int.{IsPowerOfTwo}
use Rattle.std.specs.List.{slice_get}
use Rattle.std.specs.Option.{option_map}
use mathlib.Core.List.{IsPrefix}
use Rattle.logbook.specs.Pages.{Cell, cell}
use Rattle.moka_words.specs.declared.words.Word.{Word}
use Rattle.moka_words.specs.declared.words.Word.TheVariants.{Unset}
use Rattle.moka_words.specs.declared.accesses.Seen.TheVariants as seen
use Rattle.moka_words.specs.Words.{is_sealed, node_of, word_at}
use Rattle.moka_words.specs.Arrays.{bucket_at}
use Rattle.moka_words.specs.Effect.{Memory}
use Rattle.moka_growth.specs.Calls.{Call, Point, Change, access_of}
use Rattle.moka_growth.specs.Calls as call
use Rattle.moka_growth.specs.Fits.{HasBeenRoot, Rests}
use Rattle.moka_growth.specs.Growing.{next_size, seal_of}
use Rattle.moka_growth.specs.Maps.{Finds}
use Rattle.moka_pairs.specs.Keys.{Respects, own_by}
use Rattle.moka_pairs.specs.Pairs.{pair_at}
use Rattle.moka_pairs.specs.Segments.{EffectAll, FitsAll, IsHashed}
use Rattle.moka_history.specs.declared.note.Note.{Note}
use Rattle.moka_history.specs.declared.note.Note.TheVariants.{Opened, Announced, Changed, ArrayAnnounced, CellAdded, CellHome, Sealed, ArrayLinked, Copied, Swung}
use Rattle.moka_history.specs.Entries.{Entry, map_after}
use Rattle.moka_history.specs.States.{Ticket, Array, Row, Next, Root, Plan, State, key_at, memory_of, no_next, numbered, root_number, words_in}
use Rattle.moka_history.specs.Laws.{AreMade}
use Rattle.moka_history.specs.Logs.{entries_of, entry_with, state_of}
use Rattle.moka_history.specs.Cells.{number_of, drawn}
use Rattle.moka_history.specs.Rules.{IsRooted, WasPut, made_on, keys_of, Lasts, IsFront, IsOpenedFor, NamesSeal, IsKept, Holds}

-- equal keys have one hash and one segment, whichever the hash builder is
pub record IsDivided {K S : Type 0} (eq : K → K → Bool) (hash : S → K → ℕ)
    (place : S → ℕ → K → ℕ) : Type 0 where
  pub laws : IsEquivalence eq
  pub hashed : (s : S) → Respects eq (hash s)
  pub placed : (s : S) (segments : ℕ) → Respects eq (place s segments)

-- the book of a table that was just opened keeps the rule
abbrev pub OpeningIsKept : (K V S : Type 0) → Type 0
OpeningIsKept K V S =
    (eq : K → K → Bool) (hash : S → K → ℕ) (place : S → ℕ → K → ℕ) → IsDivided eq hash place →
    (segments size : ℕ) (hasher : S) → segments ≤ 2 ^ 60 → IsPowerOfTwo size →
    Holds {V = V} eq hash place (replicate (suc (segments * size + (segments + segments))) (0, true))
    (Opened segments size hasher ∷ [])

-- each front of a kept log is kept, and was opened as the log was
abbrev pub FrontIsKept : (K V S : Type 0) → Type 0
FrontIsKept K V S =
    (eq : K → K → Bool) (hash : S → K → ℕ) (place : S → ℕ → K → ℕ) →
    (log front : List (Note K V S)) → (kept : IsKept eq hash place log) → IsFront front log →
    IsKept eq hash place front × IsOpenedFor kept.segments kept.size kept.hasher front

-- a step that leaves a word of the book keeps the rule
abbrev pub LookKeeps : (K V S : Type 0) → Type 0
LookKeeps K V S =
    (eq : K → K → Bool) (hash : S → K → ℕ) (place : S → ℕ → K → ℕ) →
    (cells : List Cell) (log : List (Note K V S)) → Holds eq hash place cells log →
    (k : ℕ) → k < length cells → (cell cells k).1 ≡ true →
    Holds eq hash place (slice_set cells k ((cell cells k).0, true)) log

-- the door's cell counts the tickets drawn, the cells of an array's places hold its words, and that of
-- a ticket says whether it is home
abbrev pub CellsHoldWords : (K V S : Type 0) → Type 0
CellsHoldWords K V S =
    (eq : K → K → Bool) (hash : S → K → ℕ) (place : S → ℕ → K → ℕ) →
    (cells : List Cell) (log : List (Note K V S)) → Holds eq hash place cells log →
    let s : State K V = state_of log in
    ((0 < length cells) × (cell cells 0 ≡ (drawn s, true)))
    × ((array index k : ℕ) → slice_get (s.arrays array) index ≡ Some k →
    (k < length cells) × (cell cells k ≡ (number_of (word_at (words_in s array) index), true)))
    × ((k n : ℕ) (home : Bool) → slice_get s.cells k ≡ Some (Ticket n home) →
    (k < length cells) × (cell cells k ≡ (0, home)))

-- an array of the opening has its row of cells, and its length
abbrev pub ArraysHaveRows : (K V S : Type 0) → Type 0
ArraysHaveRows K V S =
    (eq : K → K → Bool) (hash : S → K → ℕ) (place : S → ℕ → K → ℕ) →
    (log : List (Note K V S)) → (kept : IsKept eq hash place log) → (i : ℕ) → i < kept.segments →
    ((index : ℕ) → index < kept.size →
    slice_get ((state_of log).arrays (suc i)) index ≡ Some (1 + i * kept.size + index))
    × (length (words_in (state_of log) (suc i)) ≡ kept.size)

-- two words of small nodes that have one number are one
abbrev pub IsSmall : Word → Type 0
IsSmall w = (n : ℕ) → node_of w ≡ Some n → n ≤ 2 ^ 60

abbrev pub NumbersTellWords : Type 0
NumbersTellWords =
    (v w : Word) → IsSmall v → IsSmall w → number_of v ≡ number_of w → v ≡ w

-- a word of an array that is a segment's root, or was it, names a pair of the segment, and its number is
-- small
abbrev pub WordsNamePairs : (K V S : Type 0) → Type 0
WordsNamePairs K V S =
    (eq : K → K → Bool) (hash : S → K → ℕ) (place : S → ℕ → K → ℕ) →
    (log : List (Note K V S)) → (kept : IsKept eq hash place log) → (i a index n : ℕ) →
    IsRooted (state_of log) i a → node_of (word_at (words_in (state_of log) a) index) ≡ Some n →
    (p : K × V) × ((state_of log).pairs n ≡ Some p) × (place kept.hasher kept.segments p.0 ≡ i)
    × (n ≤ 2 ^ 60)

-- A step that draws the next ticket keeps the rule: the door counts one ticket more, and the new
-- ticket has the new cell.
abbrev pub AnnouncingKeeps : (K V S : Type 0) → Type 0
AnnouncingKeeps K V S =
    (eq : K → K → Bool) (hash : S → K → ℕ) (place : S → ℕ → K → ℕ) → IsDivided eq hash place →
    (cells : List Cell) (log : List (Note K V S)) → Holds eq hash place cells log →
    (ticket : ℕ) (pair : Option (K × V)) → ticket ≡ suc (state_of log).last → ticket ≤ 2 ^ 60 →
    Holds eq hash place
    (slice_set cells 0 (suc (drawn (state_of log)), true) ++ (0, false) ∷ [])
    (log ++ Announced ticket pair ∷ [])
    × (slice_get (state_of (log ++ Announced ticket pair ∷ [])).cells (length cells)
    ≡ Some (Ticket ticket false))

-- a call of a key, which fits after this state, comes to the exchange of a word
pub record Comes {K V : Type 0} (eq : K → K → Bool) (hash place : K → ℕ) (s : State K V) (key : K)
    (c : Call) (array size passed : ℕ) (from to : Word) : Type 0 where
  pub within : place key < s.segments
  pub hashed : c.hash ≡ hash key
  pub fits : FitsAll eq hash (keys_of place s (place key)) (Some key) (memory_of s (place key)) c
  pub comes : c.point ≡ Change array size passed from to

-- and the word is still the one that it found
pub record Exchanges {K V : Type 0} (eq : K → K → Bool) (hash place : K → ℕ) (s : State K V)
    (key : K) (c : Call) (array size passed : ℕ) (from to : Word) : Type 0 where
  pub call : Comes eq hash place s key c array size passed from to
  pub found : word_at (words_in s array) (bucket_at size c.hash passed) ≡ from

-- The exchange of the word with a ticket, whose cell wasn't home, keeps the rule: the word stands in
-- its bucket, and the ticket's cell is home. It adds one entry, on this ticket, of the key of the node
-- that the new word names, which is equal to the call's.
abbrev pub ChangingKeeps : (K V S : Type 0) → Type 0
ChangingKeeps K V S =
    (eq : K → K → Bool) (hash : S → K → ℕ) (place : S → ℕ → K → ℕ) → IsDivided eq hash place →
    (cells : List Cell) (log : List (Note K V S)) → (holds : Holds eq hash place cells log) →
    (key : K) (c : Call) (array size passed : ℕ) (from to : Word) →
    Exchanges eq (hash holds.1.hasher) (place holds.1.hasher holds.1.segments) (state_of log)
    key c array size passed from to →
    (own ticket : ℕ) → slice_get (state_of log).cells own ≡ Some (Ticket ticket false) →
    let index : ℕ = bucket_at size c.hash passed in
    let more : List (Note K V S) = log ++ Changed ticket array index to ∷ [] in
    Holds eq hash place
    (slice_set (slice_set cells (key_at (state_of log) array index) (number_of to, true))
    own (0, true)) more
    × ((k : K) × (option_map (λ p. p.0) (pair_at (state_of log).pairs (node_of to)) ≡ Some k)
    × (eq key k ≡ true)
    × (entries_of more ≡ entries_of log ++ entry_with (state_of log).pairs ticket from to k ∷ []))

-- A step that draws the next ticket for an array keeps the rule: the new cell is of that ticket, which
-- has this plan. The array that it is to grow has a number that was drawn. No entry comes.
abbrev pub ArrayAnnouncingKeeps : (K V S : Type 0) → Type 0
ArrayAnnouncingKeeps K V S =
    (eq : K → K → Bool) (hash : S → K → ℕ) (place : S → ℕ → K → ℕ) → IsDivided eq hash place →
    (cells : List Cell) (log : List (Note K V S)) → Holds eq hash place cells log →
    (ticket segment size : ℕ) (grown : Option ℕ) → ticket ≡ suc (state_of log).last →
    ticket ≤ 2 ^ 60 → ((g : ℕ) → grown ≡ Some g → g ≤ (state_of log).last) →
    let more : List (Note K V S) = log ++ ArrayAnnounced ticket segment size grown ∷ [] in
    let plan : Plan = record { segment = segment; size = size; grown = grown } in
    Holds eq hash place
    (slice_set cells 0 (suc (drawn (state_of log)), true) ++ (0, false) ∷ []) more
    × (slice_get (state_of more).cells (length cells) ≡ Some (Array ticket false))
    × ((state_of more).plans ticket ≡ Some plan) × (entries_of more ≡ entries_of log)

-- A step that adds a cell for an array that is announced keeps the rule, and no entry comes.
abbrev pub CellAddingKeeps : (K V S : Type 0) → Type 0
CellAddingKeeps K V S =
    (eq : K → K → Bool) (hash : S → K → ℕ) (place : S → ℕ → K → ℕ) → IsDivided eq hash place →
    (cells : List Cell) (log : List (Note K V S)) → Holds eq hash place cells log →
    (ticket : ℕ) → IsSome ((state_of log).plans ticket) →
    let more : List (Note K V S) = log ++ CellAdded ticket ∷ [] in
    Holds eq hash place (cells ++ (0, false) ∷ []) more
    × (slice_get (state_of more).cells (length cells) ≡ Some (Row ticket false))
    × (entries_of more ≡ entries_of log)

-- A step that brings such a cell home keeps the rule: the cell holds an unset word, which is in no
-- array. No entry comes.
abbrev pub CellBringingKeeps : (K V S : Type 0) → Type 0
CellBringingKeeps K V S =
    (eq : K → K → Bool) (hash : S → K → ℕ) (place : S → ℕ → K → ℕ) → IsDivided eq hash place →
    (cells : List Cell) (log : List (Note K V S)) → Holds eq hash place cells log →
    (ticket key : ℕ) → slice_get (state_of log).cells key ≡ Some (Row ticket false) →
    let more : List (Note K V S) = log ++ CellHome ticket key ∷ [] in
    Holds eq hash place (slice_set cells key (1, true)) more
    × (slice_get (state_of more).cells key ≡ Some (Row ticket true))
    × (entries_of more ≡ entries_of log)

-- a word that isn't sealed, of an array that is the root of the segment or was it
pub record IsBare {K V : Type 0} (s : State K V) (segment array index : ℕ) (word : Word) : Type 0
  where
    pub within : segment < s.segments
    pub rooted : HasBeenRoot (memory_of s segment) array
    pub inside : index < length (words_in s array)
    pub there : word_at (words_in s array) index ≡ word
    pub bare : is_sealed word ≡ false

-- A step that exchanges a word for its seal keeps the rule, in whatever order words are sealed. No
-- entry comes, so the map stays.
abbrev pub SealingKeeps : (K V S : Type 0) → Type 0
SealingKeeps K V S =
    (eq : K → K → Bool) (hash : S → K → ℕ) (place : S → ℕ → K → ℕ) → IsDivided eq hash place →
    (cells : List Cell) (log : List (Note K V S)) → Holds eq hash place cells log →
    (segment array index : ℕ) (word : Word) → IsBare (state_of log) segment array index word →
    let more : List (Note K V S) = log ++ Sealed array index (seal_of word) ∷ [] in
    Holds eq hash place
    (slice_set cells (key_at (state_of log) array index) (number_of (seal_of word), true)) more
    × (entries_of more ≡ entries_of log)

-- A call of a segment, with this key or with none, fits after this state, and stands at this point.
pub record StandsAt {K V : Type 0} (eq : K → K → Bool) (hash place : K → ℕ) (s : State K V)
    (segment : ℕ) (key : Option K) (c : Call) (point : Point) : Type 0 where
  pub within : segment < s.segments
  pub hashed : IsHashed hash key c
  pub fits : FitsAll eq hash (keys_of place s segment) key (memory_of s segment) c
  pub stands : c.point ≡ point

-- The array of a ticket is ready to be linked after another one of its segment: it was announced so, its
-- ticket isn't home, these are the keys of its words and of the cell behind them, and nothing follows the
-- other one so far.
pub record IsReady {K V : Type 0} (s : State K V) (segment grown own ticket next : ℕ)
    (keys : List ℕ) (behind : ℕ) : Type 0 where
  pub there : slice_get s.cells own ≡ Some (Array ticket false)
  pub planned : s.plans ticket
      ≡ Some (record { segment = segment; size = length keys; grown = Some grown })
  pub made : AreMade s ticket keys behind
  pub free : slice_get s.cells next ≡ Some (Next grown (no_next segment grown))

-- A step that links an array keeps the rule: the word for the array after the one that it grows names
-- it, and its ticket's cell is home. It is what a call that stands there wants, whatever number comes
-- next. No entry comes, so the map stays.
abbrev pub LinkingKeeps : (K V S : Type 0) → Type 0
LinkingKeeps K V S =
    (eq : K → K → Bool) (hash : S → K → ℕ) (place : S → ℕ → K → ℕ) → IsDivided eq hash place →
    (cells : List Cell) (log : List (Note K V S)) → (holds : Holds eq hash place cells log) →
    let h : K → ℕ = hash holds.1.hasher in
    let p : K → ℕ = place holds.1.hasher holds.1.segments in
    (segment grown size : ℕ) (kept : List (ℕ × ℕ)) (key : Option K) (c : Call) →
    StandsAt eq h p (state_of log) segment key c (call.Link (Some grown) size kept) →
    (own ticket next : ℕ) (keys : List ℕ) (behind : ℕ) →
    IsReady (state_of log) segment grown own ticket next keys behind →
    length keys ≡ next_size (Some grown) size (length kept) →
    let more : List (Note K V S) =
    log ++ ArrayLinked ticket segment (Some grown) keys behind ∷ [] in
    Holds eq hash place (slice_set (slice_set cells next (ticket, true)) own (0, true)) more
    × EffectAll eq h (keys_of p (state_of log) segment) key (access_of c)
    (seen.Linked ticket (length keys)) (numbered ticket (memory_of (state_of log) segment))
    (numbered (suc ticket) (memory_of (state_of more) segment))
    × (entries_of more ≡ entries_of log)

-- Where another array was linked there, a call that wants to link one sees that one, and leaves all as
-- it is.
abbrev pub LinkIsThere : (K V S : Type 0) → Type 0
LinkIsThere K V S =
    (eq : K → K → Bool) (hash : S → K → ℕ) (place : S → ℕ → K → ℕ) → IsDivided eq hash place →
    (log : List (Note K V S)) → (kept_log : IsKept eq hash place log) →
    let h : K → ℕ = hash kept_log.hasher in
    let p : K → ℕ = place kept_log.hasher kept_log.segments in
    (segment grown size : ℕ) (kept : List (ℕ × ℕ)) (key : Option K) (c : Call) →
    StandsAt eq h p (state_of log) segment key c (call.Link (Some grown) size kept) →
    (next array : ℕ) → slice_get (state_of log).cells next ≡ Some (Next grown array) →
    array ≢ no_next segment grown →
    let m : Memory = memory_of (state_of log) segment in
    EffectAll eq h (keys_of p (state_of log) segment) key (access_of c)
    (seen.Linked array (length (words_in (state_of log) array))) m m

-- A step that copies a word into an array that was linked keeps the rule, if the word was unset: it is
-- the one that the array's layout has there. It is what a call that stands there wants. No entry comes,
-- so the map stays.
abbrev pub CopyingKeeps : (K V S : Type 0) → Type 0
CopyingKeeps K V S =
    (eq : K → K → Bool) (hash : S → K → ℕ) (place : S → ℕ → K → ℕ) → IsDivided eq hash place →
    (cells : List Cell) (log : List (Note K V S)) → (holds : Holds eq hash place cells log) →
    let h : K → ℕ = hash holds.1.hasher in
    let p : K → ℕ = place holds.1.hasher holds.1.segments in
    (segment array index : ℕ) (from : Option ℕ) (laid : List Word) (key : Option K) (c : Call) →
    StandsAt eq h p (state_of log) segment key c (call.Copy from array index laid) →
    word_at (words_in (state_of log) array) index ≡ Unset →
    let to : Word = word_at laid index in
    let more : List (Note K V S) = log ++ Copied array index to ∷ [] in
    Holds eq hash place
    (slice_set cells (key_at (state_of log) array index) (number_of to, true)) more
    × EffectAll eq h (keys_of p (state_of log) segment) key (access_of c) seen.Copied
    (memory_of (state_of log) segment) (memory_of (state_of more) segment)
    × (entries_of more ≡ entries_of log)

-- A word that is set is left as it is by a call that copies.
abbrev pub CopyIsThere : (K V : Type 0) → Type 0
CopyIsThere K V =
    (eq : K → K → Bool) (hash : K → ℕ) (s : State K V) (known : ℕ → Option K)
    (segment array index : ℕ) (from : Option ℕ) (laid : List Word) (key : Option K) (c : Call) →
    c.point ≡ call.Copy from array index laid →
    word_at (words_in s array) index ≢ Unset →
    EffectAll eq hash known key (access_of c) seen.Copied (memory_of s segment)
    (memory_of s segment)

-- The step that makes the array after a segment's root its root keeps the rule, where the root is still
-- the one that the call has left: the word for it names the other one. It is what a call that stands
-- there wants. No entry comes, so the map stays.
abbrev pub SwingingKeeps : (K V S : Type 0) → Type 0
SwingingKeeps K V S =
    (eq : K → K → Bool) (hash : S → K → ℕ) (place : S → ℕ → K → ℕ) → IsDivided eq hash place →
    (cells : List Cell) (log : List (Note K V S)) → (holds : Holds eq hash place cells log) →
    let h : K → ℕ = hash holds.1.hasher in
    let p : K → ℕ = place holds.1.hasher holds.1.segments in
    (segment from to : ℕ) (key : Option K) (c : Call) →
    StandsAt eq h p (state_of log) segment key c (call.Swing (Some from) to) → (root : ℕ) →
    slice_get (state_of log).cells root ≡ Some (Root segment (root_number segment from)) →
    let more : List (Note K V S) = log ++ Swung segment from to ∷ [] in
    Holds eq hash place (slice_set cells root (to, true)) more
    × EffectAll eq h (keys_of p (state_of log) segment) key (access_of c) seen.Swung
    (memory_of (state_of log) segment) (memory_of (state_of more) segment)
    × (entries_of more ≡ entries_of log)

-- Where the root is another one by now, such a call leaves all as it is.
abbrev pub SwingIsThere : (K V S : Type 0) → Type 0
SwingIsThere K V S =
    (eq : K → K → Bool) (hash : S → K → ℕ) (place : S → ℕ → K → ℕ) → IsDivided eq hash place →
    (log : List (Note K V S)) → (kept_log : IsKept eq hash place log) →
    let h : K → ℕ = hash kept_log.hasher in
    let p : K → ℕ = place kept_log.hasher kept_log.segments in
    (segment from to : ℕ) (key : Option K) (c : Call) →
    StandsAt eq h p (state_of log) segment key c (call.Swing (Some from) to) →
    (root number : ℕ) → slice_get (state_of log).cells root ≡ Some (Root segment number) →
    number ≢ root_number segment from →
    let m : Memory = memory_of (state_of log) segment in
    EffectAll eq h (keys_of p (state_of log) segment) key (access_of c) seen.Swung m m

-- What a call knew with the keys of a front it knows with those of the log. Where it fits the memory of
-- a front, with these, it fits that of the log.
abbrev pub CallsStillFit : (K V S : Type 0) → Type 0
CallsStillFit K V S =
    (eq : K → K → Bool) (hash : S → K → ℕ) (place : S → ℕ → K → ℕ) → IsDivided eq hash place →
    (log front : List (Note K V S)) → (kept : IsKept eq hash place log) → IsFront front log →
    (i : ℕ) → i < kept.segments → (key : Option K) (c : Call) →
    let p : K → ℕ = place kept.hasher kept.segments in
    let known : ℕ → Option K = keys_of p (state_of log) i in
    ((m : Memory) → FitsAll eq (hash kept.hasher) (keys_of p (state_of front) i) key m c →
    FitsAll eq (hash kept.hasher) known key m c)
    × (IsHashed (hash kept.hasher) key c → Rests c.point →
    FitsAll eq (hash kept.hasher) known key (memory_of (state_of front) i) c →
    FitsAll eq (hash kept.hasher) known key (memory_of (state_of log) i) c)

-- what a call found under its key is what the map after the entries has there
abbrev pub FoundIsHistory : (K V S : Type 0) → Type 0
FoundIsHistory K V S =
    (eq : K → K → Bool) (hash : S → K → ℕ) (place : S → ℕ → K → ℕ) → IsDivided eq hash place →
    (log : List (Note K V S)) → (kept : IsKept eq hash place log) → (key : K) (found : Option ℕ) →
    let p : K → ℕ = place kept.hasher kept.segments in
    p key < kept.segments →
    Finds (own_by eq (keys_of p (state_of log) (p key)) key) (memory_of (state_of log) (p key))
    found →
    map_after eq (entries_of log) key ≡ pair_at (state_of log).pairs found

-- what a front says lasts: its entries begin those of the log, its numbers have their pairs, its
-- arrays their cells, and its tickets theirs
abbrev pub FrontLasts : (K V S : Type 0) → Type 0
FrontLasts K V S =
    (eq : K → K → Bool) (hash : S → K → ℕ) (place : S → ℕ → K → ℕ) →
    (log front : List (Note K V S)) → (kept : IsKept eq hash place log) → IsFront front log →
    IsPrefix (entries_of front) (entries_of log)
    × Lasts eq (place kept.hasher kept.segments) (state_of front) (state_of log)

-- no ticket has two entries; a ticket that had its entry in a front has it and no other in the log
abbrev pub TicketsAreSpentOnce : (K V S : Type 0) → Type 0
TicketsAreSpentOnce K V S =
    (eq : K → K → Bool) (hash : S → K → ℕ) (place : S → ℕ → K → ℕ) →
    (log : List (Note K V S)) → IsKept eq hash place log → (ticket : ℕ) →
    (made_on ticket (entries_of log) ≤ 1)
    × ((own : ℕ) (home : Bool) → slice_get (state_of log).cells own ≡ Some (Ticket ticket home) →
    made_on ticket (entries_of log) ≡ cond home 1 0)
    × ((front : List (Note K V S)) → IsFront front log → made_on ticket (entries_of front) ≡ 1 →
    made_on ticket (entries_of log) ≡ 1)

-- A word of an array that was a segment's root by a front, and isn't as it was after it, is sealed, or
-- was changed by an entry past the front, on another ticket than one whose cell isn't home.
abbrev pub WordsChangeByEntries : (K V S : Type 0) → Type 0
WordsChangeByEntries K V S =
    (eq : K → K → Bool) (hash : S → K → ℕ) (place : S → ℕ → K → ℕ) →
    (log front : List (Note K V S)) → (kept : IsKept eq hash place log) → IsFront front log →
    (i a index : ℕ) → IsRooted (state_of front) i a →
    word_at (words_in (state_of log) a) index ≢ word_at (words_in (state_of front) a) index →
    (is_sealed (word_at (words_in (state_of log) a) index) ≡ true)
    ⊎ ((e : Entry K V) × (slice_get (entries_of log) (length (entries_of front)) ≡ Some e)
    × ((own ticket : ℕ) → slice_get (state_of log).cells own ≡ Some (Ticket ticket false) →
    e.ticket ≢ ticket))

-- a kept log names each sealed word of an array as the seal that was put there
abbrev pub SealsAreNamed : (K V S : Type 0) → Type 0
SealsAreNamed K V S =
    (eq : K → K → Bool) (hash : S → K → ℕ) (place : S → ℕ → K → ℕ) →
    (log : List (Note K V S)) → IsKept eq hash place log → (array index : ℕ) →
    is_sealed (word_at (words_in (state_of log) array) index) ≡ true →
    NamesSeal array index (word_at (words_in (state_of log) array) index) log

-- puts of so many different keys of one segment
pub record ArePut {K V : Type 0} (eq : K → K → Bool) (place : K → ℕ) (es : List (Entry K V))
    (segment count : ℕ) : Type 0 where
  pub key : (n : ℕ) → n < count → K
  pub own : (n : ℕ) (below : n < count) → place (key n below) ≡ segment
  pub put : (n : ℕ) (below : n < count) → WasPut eq es (key n below)
  pub differ : (n m : ℕ) (b : n < count) (d : m < count) → eq (key n b) (key m d) ≡ true → n ≡ m

-- an array of which each word names a node was filled by puts of as many keys
abbrev pub FullArrayWasPut : (K V S : Type 0) → Type 0
FullArrayWasPut K V S =
    (eq : K → K → Bool) (hash : S → K → ℕ) (place : S → ℕ → K → ℕ) →
    (log : List (Note K V S)) → (kept : IsKept eq hash place log) → (i a : ℕ) →
    IsRooted (state_of log) i a →
    let size : ℕ = length (words_in (state_of log) a) in
    ((index : ℕ) → index < size →
    IsSome (node_of (word_at (words_in (state_of log) a) index))) →
    ArePut eq (place kept.hasher kept.segments) (entries_of log) i size
