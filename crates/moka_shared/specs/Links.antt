-- Links of arrays after the first ones of segments, and copies of words into them.
use Rattle.std.specs.Prelude.{◌≡◌, ◌≢◌, ℕ, suc, Bool, false, nat_lt, List, map, length, Option, Some, None, MatchBool, if◌then◌else◌}
use Rattle.std.specs.List.{slice_get}
use mathlib.Core.List.{IsPrefix}
use Rattle.logbook.specs.Pages.{Named}
use Rattle.boxcar.specs.Table as tag
use Rattle.moka_words.specs.declared.words.Word.{Word}
use Rattle.moka_words.specs.declared.words.Word.TheVariants.{Unset}
use Rattle.moka_words.specs.declared.accesses.Seen.TheVariants as seen
use Rattle.moka_words.specs.Words.{is_sealed, word_at}
use Rattle.moka_growth.specs.Calls.{Call, Point, access_of}
use Rattle.moka_growth.specs.Calls as point
use Rattle.moka_growth.specs.Growing.{next_size}
use Rattle.moka_pairs.specs.Segments.{EffectAll}
use Rattle.moka_history.specs.declared.note.Note.{Note}
use Rattle.moka_history.specs.Cells.{number_of}
use Rattle.moka_history.specs.Keeping.{StandsAt}
use Rattle.moka_history.specs.Logs.{state_of}
use Rattle.moka_history.specs.Moving.{MayLink, WasReady}
use Rattle.moka_history.specs.Rules.{IsOpenedFor, keys_of}
use Rattle.moka_history.specs.States.{memory_of, numbered, words_in}
use Rattle.moka_shared.specs.declared.asked.Copying.{Copying}
use Rattle.moka_shared.specs.declared.asked.Linking.{Linking}
use Rattle.moka_shared.specs.declared.answers.TryLink.{TryLink}
use Rattle.moka_shared.specs.declared.answers.TryLink.TheVariants as link
use Rattle.moka_shared.specs.Rows.{Leaves}
use Rattle.moka_shared.specs.Tables.{Table}

-- the keys of words
abbrev pub keys_in : List Named → List ℕ
keys_in words = map (λ w. w.key) words

module _ {K V S : Type 0} (eq : K → K → Bool) (hash : S → K → ℕ) (place : S → ℕ → K → ℕ) where
  -- A call of this segment, of a key or of none, has found all words of the first array sealed, and
  -- wants an array of so many words linked after it.
  pub record WantsLink (hasher : S) (segments segment count : ℕ) (log : List (Note K V S))
      : Type 0 where
    pub key : Option K
    pub call : Call
    pub size : ℕ
    pub kept : List (ℕ × ℕ)
    pub stands : StandsAt eq (hash hasher) (place hasher segments) (state_of log) segment key call
        (point.Link (Some (suc segment)) size kept)
    pub count_is : count ≡ next_size (Some (suc segment)) size (length kept)

  -- One wants to copy this word into the array that follows.
  pub record WantsCopy (hasher : S) (segments segment array index : ℕ) (to : Word)
      (log : List (Note K V S)) : Type 0 where
    pub key : Option K
    pub call : Call
    pub from : Option ℕ
    pub laid : List Word
    pub stands : StandsAt eq (hash hasher) (place hasher segments) (state_of log) segment key call
        (point.Copy from array index laid)
    pub to_is : to ≡ word_at laid index

  -- An array that is announced may be linked by the word of this key, with the pen of the ticket's
  -- cell.
  pub record MayJoin (next own : ℕ) (asked : Linking) (log : List (Note K V S)) : Type 0 where
    pub segments : ℕ
    pub first : ℕ
    pub hasher : S
    pub opened : IsOpenedFor segments first hasher log
    pub wants : WantsLink hasher segments asked.segment (length asked.keys.numbers) log
    pub may : MayLink (state_of log) asked.segment (suc asked.segment) own asked.ticket next
        asked.keys.numbers (tag.first asked.behind.numbers)

  -- A word may be copied into the cell of this key.
  pub record MayCopy (bucket to : ℕ) (asked : Copying) (log : List (Note K V S)) : Type 0 where
    pub segments : ℕ
    pub first : ℕ
    pub hasher : S
    pub opened : IsOpenedFor segments first hasher log
    pub segment : ℕ
    pub wants : WantsCopy hasher segments segment asked.array asked.index asked.to log
    pub there : slice_get ((state_of log).arrays asked.array) asked.index ≡ Some bucket
    pub to_is : to ≡ number_of asked.to

  -- the array was linked, which was ready for it
  pub record JoinsRow (next own : ℕ) (note : Note K V S) (old new : List (Note K V S)) : Type 0
    where
      pub leaves : Leaves eq hash place next 0 note old new
      pub ready : WasReady own next note (state_of leaves.writes.log)

-- where a call stands that has met sealed words alone in the first array of its segment, up to this one
abbrev pub sealing_at : (segment size index : ℕ) → (kept : List (ℕ × ℕ)) → Point
sealing_at segment size index kept =
    if nat_lt index size then point.Seal (suc segment) size index kept
    else point.Next (Some (suc segment)) size kept

-- a call has met sealed words alone up to this index, of which so many store a node
pub record HasSealed {K V S : Type 0} (eq : K → K → Bool) (hash : S → K → ℕ)
    (place : S → ℕ → K → ℕ) (t : Table S) (segment index stored : ℕ) (log : List (Note K V S))
    : Type 0 where
  pub call : Call
  pub kept : List (ℕ × ℕ)
  pub stands : StandsAt eq (hash t.hasher) (place t.hasher t.segments) (state_of log) segment None
      call (sealing_at segment t.size index kept)
  pub stored_is : stored ≡ length kept

-- the word of this bucket isn't sealed
abbrev pub IsOpenAt : {K V S : Type 0} → (segment index : ℕ) → List (Note K V S) → Type 0
IsOpenAt segment index log =
    is_sealed (word_at (words_in (state_of log) (suc segment)) index) ≡ false

-- the array of this number follows the first one of the segment, and its words are those of these keys
pub record Follows {K V S : Type 0} (segment array : ℕ) (keys : List ℕ) (log : List (Note K V S))
    : Type 0 where
  pub there : slice_get ((state_of log).links segment) 0 ≡ Some array
  pub words : (i k : ℕ) → slice_get keys i ≡ Some k →
      slice_get ((state_of log).arrays array) i ≡ Some k
  pub long : length ((state_of log).arrays array) ≡ length keys

module _ {K V S : Type 0} (eq : K → K → Bool) (hash : S → K → ℕ) (place : S → ℕ → K → ℕ)
    (t : Table S) (segment : ℕ) (old new : List (Note K V S)) where
  -- At a history between, the array was linked. A call wanted one of its length then, and it is what
  -- each such call wanted, whatever number came next.
  pub record Links (array : ℕ) (keys : List ℕ) : Type 0 where
    pub found : List (Note K V S)
    pub begins : IsPrefix old found
    pub goes_on : IsPrefix found new
    pub follows : Follows segment array keys new
    pub wanted : WantsLink eq hash place t.hasher t.segments segment (length keys) found
    pub effect : (w : WantsLink eq hash place t.hasher t.segments segment (length keys) found) →
        EffectAll eq (hash t.hasher)
        (keys_of (place t.hasher t.segments) (state_of found) segment) w.key (access_of w.call)
        (seen.Linked array (length keys)) (numbered array (memory_of (state_of found) segment))
        (numbered (suc array) (memory_of (state_of new) segment))

  -- Another array follows. A call wanted one of this length, and each such call sees that one, and
  -- leaves it.
  pub record IsThere (array count : ℕ) : Type 0 where
    pub there : slice_get ((state_of new).links segment) 0 ≡ Some array
    pub wanted : WantsLink eq hash place t.hasher t.segments segment count new
    pub effect : (w : WantsLink eq hash place t.hasher t.segments segment count new) →
        EffectAll eq (hash t.hasher)
        (keys_of (place t.hasher t.segments) (state_of new) segment) w.key (access_of w.call)
        (seen.Linked array (length (words_in (state_of new) array)))
        (memory_of (state_of new) segment) (memory_of (state_of new) segment)

  -- what became of an array that was to be linked
  abbrev pub LinksSo : (array : ℕ) → (keys : List ℕ) → TryLink → Type 0
  LinksSo array keys link.Linked = Links array keys
  LinksSo array keys (link.There other) = IsThere other (length keys)
  LinksSo array keys (link.Open index) = IsOpenAt segment index new
  LinksSo array keys (link.Length size) = (length keys ≢ size) × ((stored : ℕ)
      × HasSealed eq hash place t segment t.size stored new
      × (size ≡ next_size (Some (suc segment)) t.size stored))

  -- The word was set at a history between, or was set by then. A call wanted so, and it is what each
  -- such call wanted.
  pub record Copies (array index : ℕ) (to : Word) (set : Bool) : Type 0 where
    pub found : List (Note K V S)
    pub begins : IsPrefix old found
    pub goes_on : IsPrefix found new
    pub was : MatchBool set (word_at (words_in (state_of found) array) index ≡ Unset)
        (word_at (words_in (state_of found) array) index ≢ Unset)
    pub is : word_at (words_in (state_of new) array) index ≢ Unset
    pub wanted : WantsCopy eq hash place t.hasher t.segments segment array index to found
    pub effect : (w : WantsCopy eq hash place t.hasher t.segments segment array index to found) →
        EffectAll eq (hash t.hasher)
        (keys_of (place t.hasher t.segments) (state_of found) segment) w.key (access_of w.call)
        seen.Copied (memory_of (state_of found) segment) (memory_of (state_of new) segment)
