-- Swings of segments' roots.
use Rattle.std.specs.Prelude.{◌≡◌, ◌≢◌, ℕ, suc, ◌<◌, Bool, List, Option, Some}
use Rattle.std.specs.List.{slice_get}
use mathlib.Core.List.{IsPrefix}
use Rattle.moka_words.specs.declared.words.Word.TheVariants.{Unset}
use Rattle.moka_words.specs.declared.accesses.Seen.TheVariants as seen
use Rattle.moka_words.specs.Words.{word_at}
use Rattle.moka_words.specs.Effect.{root}
use Rattle.moka_growth.specs.Calls.{Call, access_of}
use Rattle.moka_growth.specs.Calls as point
use Rattle.moka_pairs.specs.Segments.{EffectAll}
use Rattle.moka_history.specs.declared.note.Note.{Note}
use Rattle.moka_history.specs.Keeping.{StandsAt}
use Rattle.moka_history.specs.Logs.{state_of}
use Rattle.moka_history.specs.Rules.{IsOpenedFor, IsRooted, keys_of}
use Rattle.moka_history.specs.States.{Root, memory_of, words_in}
use Rattle.moka_shared.specs.declared.asked.Swinging.{Swinging}
use Rattle.moka_shared.specs.declared.answers.TrySwing.{TrySwing}
use Rattle.moka_shared.specs.declared.answers.TrySwing.TheVariants as swing
use Rattle.moka_shared.specs.Probing.{IsFirstRoot}
use Rattle.moka_shared.specs.Tables.{Table}

module _ {K V S : Type 0} (eq : K → K → Bool) (hash : S → K → ℕ) (place : S → ℕ → K → ℕ) where
  -- A call of this segment, of a key or of none, has seen each word of this array set, and wants it to
  -- be the root after the segment's first one.
  pub record WantsSwing (hasher : S) (segments segment array : ℕ) (log : List (Note K V S)) : Type 0
    where
      pub key : Option K
      pub call : Call
      pub stands : StandsAt eq (hash hasher) (place hasher segments) (state_of log) segment key call
          (point.Swing (Some (suc segment)) array)

  -- the root may be swung that the word of this key names
  pub record MaySwing (root : ℕ) (asked : Swinging) (log : List (Note K V S)) : Type 0 where
    pub segments : ℕ
    pub first : ℕ
    pub hasher : S
    pub opened : IsOpenedFor segments first hasher log
    pub wants : WantsSwing hasher segments asked.segment asked.to log
    pub from_is : asked.from ≡ suc asked.segment
    pub number : ℕ
    pub there : slice_get (state_of log).cells root ≡ Some (Root asked.segment number)

-- the words of the array before this index are set
abbrev pub AreSet : {K V S : Type 0} → (array index : ℕ) → List (Note K V S) → Type 0
AreSet array index log =
    (i : ℕ) → i < index → word_at (words_in (state_of log) array) i ≢ Unset

module _ {K V S : Type 0} (eq : K → K → Bool) (hash : S → K → ℕ) (place : S → ℕ → K → ℕ)
    (t : Table S) (segment : ℕ) (old new : List (Note K V S)) where
  -- At a history between, the root was the segment's first array, and became this one. A call wanted so
  -- then, and it is what each such call wanted.
  pub record Swings (array : ℕ) : Type 0 where
    pub found : List (Note K V S)
    pub begins : IsPrefix old found
    pub goes_on : IsPrefix found new
    pub was : IsFirstRoot segment found
    pub is : IsRooted (state_of new) segment array
    pub wanted : WantsSwing eq hash place t.hasher t.segments segment array found
    pub effect : (w : WantsSwing eq hash place t.hasher t.segments segment array found) →
        EffectAll eq (hash t.hasher)
        (keys_of (place t.hasher t.segments) (state_of found) segment) w.key (access_of w.call)
        seen.Swung (memory_of (state_of found) segment) (memory_of (state_of new) segment)

  -- The root is this other array by now. A call wanted so, and it is what each such call sees, and
  -- leaves.
  pub record HasSwung (array other : ℕ) : Type 0 where
    pub is : root (memory_of (state_of new) segment) ≡ Some other
    pub not_first : other ≢ suc segment
    pub wanted : WantsSwing eq hash place t.hasher t.segments segment array new
    pub effect : (w : WantsSwing eq hash place t.hasher t.segments segment array new) →
        EffectAll eq (hash t.hasher)
        (keys_of (place t.hasher t.segments) (state_of new) segment) w.key (access_of w.call)
        seen.Swung (memory_of (state_of new) segment) (memory_of (state_of new) segment)

  -- what became of a root that was to be swung
  abbrev pub SwingsSo : (array : ℕ) → TrySwing → Type 0
  SwingsSo array swing.Swung = Swings array
  SwingsSo array (swing.There other) = HasSwung array other
  SwingsSo array (swing.Unset index) = word_at (words_in (state_of new) array) index ≡ Unset
