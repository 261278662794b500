-- Arrays that are filled with what the one before stores.
use Rattle.std.specs.Prelude.{◌≡◌, ℕ, suc, ◌≤◌, ◌^◌, Bool, List, ◌++◌, Option, Some, None}
use Rattle.std.specs.List.{slice_get}
use Rattle.std.specs.Option.{option_map, option_to_list}
use Rattle.moka_words.specs.declared.words.Word.{Word}
use Rattle.moka_words.specs.Words.{stored_in, word_at}
use Rattle.moka_growth.specs.Calls.{Call}
use Rattle.moka_growth.specs.Growing.{laid_out}
use Rattle.moka_history.specs.declared.note.Note.{Note}
use Rattle.moka_history.specs.Keeping.{StandsAt}
use Rattle.moka_history.specs.Logs.{state_of}
use Rattle.moka_history.specs.States.{words_in}
use Rattle.moka_shelf.specs.Looks.{Hiding}
use Rattle.moka_shared.specs.declared.answers.Missed.{Missed}
use Rattle.moka_shared.specs.declared.answers.Missed.TheVariants as missed
use Rattle.moka_shared.specs.declared.answers.TryFill.{TryFill}
use Rattle.moka_shared.specs.declared.answers.TryFill.TheVariants as fill
use Rattle.moka_shared.specs.Links.{sealing_at}
use Rattle.moka_shared.specs.Meeting.{Hides}
use Rattle.moka_shared.specs.Swings.{AreSet}
use Rattle.moka_shared.specs.Tables.{Table}

-- a call has met sealed words alone up to this index, and keeps these nodes of them, with their hashes
pub record HasKept {K V S : Type 0} (eq : K → K → Bool) (hash : S → K → ℕ)
    (place : S → ℕ → K → ℕ) (t : Table S) (segment index : ℕ) (kept : List (ℕ × ℕ))
    (log : List (Note K V S)) : Type 0 where
  pub call : Call
  pub stands : StandsAt eq (hash t.hasher) (place t.hasher t.segments) (state_of log) segment None
      call (sealing_at segment t.size index kept)

-- the numbers of the nodes are small
abbrev pub AreFew : List (ℕ × ℕ) → Type 0
AreFew kept = (i : ℕ) (p : ℕ × ℕ) → slice_get kept i ≡ Some p → p.0 ≤ 2 ^ 60

-- it is the hash of the key of this number's pair
abbrev pub HasHash : {K V : Type 0} → (by : K → ℕ) → (pairs : ℕ → Option (K × V)) →
    (number h : ℕ) → Type 0
HasHash {K} {V} by pairs number h = (p : K × V) → pairs number ≡ Some p → h ≡ by p.0

-- the node that the word stores was kept, with the hash of its key
abbrev pub KeepsNode : {K V : Type 0} → (by : K → ℕ) → (pairs : ℕ → Option (K × V)) → Word →
    (old new : List (ℕ × ℕ)) → Type 0
KeepsNode by pairs word old new =
    (h : ℕ) → ((n : ℕ) → stored_in word ≡ Some n → HasHash by pairs n h) →
    new ≡ old ++ option_to_list (option_map (λ n. (n, h)) (stored_in word))

-- so the words of an array of this length are laid out that follows the segment's first one
pub record IsLaid {K V S : Type 0} (eq : K → K → Bool) (hash : S → K → ℕ)
    (place : S → ℕ → K → ℕ) (t : Table S) (segment count : ℕ) (laid : List Word)
    (log : List (Note K V S)) : Type 0 where
  pub kept : List (ℕ × ℕ)
  pub has : HasKept eq hash place t segment t.size kept log
  pub few : AreFew kept
  pub laid_is : laid ≡ laid_out kept count

module _ {K V S : Type 0} (segment : ℕ) (log : List (Note K V S)) (old new : Hiding) where
  -- the node was hidden from the look, as the last of all, and a word of the first array stores it
  pub record IsHiddenNode (number : ℕ) : Type 0 where
    pub index : ℕ
    pub stored : stored_in (word_at (words_in (state_of log) (suc segment)) index) ≡ Some number
    pub hides : Hides number old new

  -- why an array wasn't filled
  abbrev pub IsUnfilled : Missed → Type 0
  IsUnfilled (missed.NodeHidden number) = IsHiddenNode number
  IsUnfilled (missed.Sealed word array index) = ⊥
  IsUnfilled (missed.ArrayHidden array) = ⊥
  IsUnfilled (missed.Ticket ticket) = ⊥
  IsUnfilled (missed.Lost word) = ⊥
  IsUnfilled (missed.NoFree count) = ⊥
  IsUnfilled missed.Spent = ⊥

  -- what became of an array of this length that was to be filled
  abbrev pub FillsSo : (array count : ℕ) → TryFill → Type 0
  FillsSo array count fill.Filled = AreSet array count log × (new ≡ old)
  FillsSo array count (fill.Again m) = IsUnfilled m
  FillsSo array count fill.Memory = new ≡ old
