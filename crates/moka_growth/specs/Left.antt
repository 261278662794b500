-- How long a call goes on by itself: a number that each step lowers which leaves the call going.
use Rattle.std.specs.Prelude.{◌≡◌, ℕ, ◌+◌, ◌-◌, ◌*◌, ◌≤◌, max, Bool, true, false, not, ◌||◌, nat_eq, List, length, Option, Some, None, if◌then◌else◌}
use Rattle.std.specs.Option.{option_eq}
use Rattle.std.specs.List.{list_any}
use Rattle.moka_words.specs.declared.words.Word.{Word}
use Rattle.moka_words.specs.declared.words.Word.TheVariants.{Unset, Empty, Live, Tomb, SealedEmpty, SealedLive, SealedTomb}
use Rattle.moka_words.specs.Words.{is_sealed, word_at}
use Rattle.moka_words.specs.Arrays.{bucket_at}
use Rattle.moka_words.specs.Effect.{Memory, array_at, root, words_of}
use Rattle.moka_growth.specs.declared.kinds.CallKind.{CallKind}
use Rattle.moka_growth.specs.declared.kinds.CallKind.TheVariants as kind
use Rattle.moka_growth.specs.Calls.{Point, Call}
use Rattle.moka_growth.specs.Calls as call
use Rattle.moka_growth.specs.Maps.{present_nodes}

-- how long arrays get, by the longest with which segments began and by the most keys of a segment
abbrev pub longest : (first peak : ℕ) → ℕ
longest first peak = max first (3 * peak)

-- no array is longer, and no more keys are present; `first` is at least the length of the first
-- array that is linked
pub record IsShort (first peak : ℕ) (m : Memory) : Type 0 where
  pub least : 128 ≤ first
  pub lengths : (place a : ℕ) → array_at m place ≡ Some a → length (m.words a) ≤ longest first peak
  pub keys : length (present_nodes m) ≤ peak

-- two words are one
abbrev pub word_eq : Word → Word → Bool
word_eq Unset Unset = true
word_eq Empty Empty = true
word_eq (Live n) (Live m) = nat_eq n m
word_eq (Tomb n) (Tomb m) = nat_eq n m
word_eq SealedEmpty SealedEmpty = true
word_eq (SealedLive n) (SealedLive m) = nat_eq n m
word_eq (SealedTomb n) (SealedTomb m) = nat_eq n m
word_eq v w = false

abbrev pub is_empty : Word → Bool
is_empty w = word_eq w Empty

-- an insert needs an empty word, and a root
abbrev pub has_no_place : CallKind → (root : Option ℕ) → List Word → Bool
has_no_place kind.Get r words = false
has_no_place kind.Insert None words = true
has_no_place kind.Insert (Some a) words = not (list_any is_empty words)
has_no_place kind.Remove r words = false
has_no_place kind.Keys r words = false

-- the call may have to see the root grow: it has a sealed word, or no place
abbrev pub is_behind : CallKind → (root : Option ℕ) → List Word → Bool
is_behind k r words = list_any is_sealed words || has_no_place k r words

-- how often the call may yet grow the root by the hint
abbrev pub hints : CallKind → (spent : Bool) → ℕ
hints kind.Get spent = 0
hints kind.Insert spent = if spent then 0 else 1
hints kind.Remove spent = if spent then 0 else 1
hints kind.Keys spent = 0

-- steps to grow an array of at most so many words; steps of a call from the load of the root on,
-- which grows it so often
abbrev pub to_grow : (most : ℕ) → ℕ
to_grow most = 3 * most + 3

abbrev pub to_end : (most times : ℕ) → ℕ
to_end most times = most + 2 + times * (4 * most + 6)

-- from the load of the root on, by whether the call is behind
abbrev pub from_root : (most times : ℕ) → (behind : Bool) → ℕ
from_root most times behind = if behind then to_end most (times + 1) else to_end most times

-- what remains once the array after this one is root: nothing of that growth if this one is the
-- root now
abbrev pub once_grown : (most times : ℕ) → (behind : Bool) → (root array : Option ℕ) → ℕ
once_grown most times behind r array =
    if option_eq nat_eq array r then to_end most times else from_root most times behind

-- what remains after a probe, or a walk, that meets a sealed word
abbrev pub once_met : (most times : ℕ) → (behind : Bool) → (root : Option ℕ) → (array : ℕ) → ℕ
once_met most times behind r array =
    if option_eq nat_eq (Some array) r then
    (if behind then 1 + to_grow most + to_end most times else 0)
    else from_root most times behind

-- what a call has left at a point
abbrev pub left_at : (most times : ℕ) → (behind : Bool) → (root : Option ℕ) →
    (words : ℕ → List Word) → (hash : ℕ) → Point → ℕ
left_at most times behind r words hash (call.Root None) = from_root most times behind
left_at most times behind r words hash (call.Root (Some array)) =
    if option_eq nat_eq (Some array) r then 1 + to_grow most +
    to_end most times else from_root most times behind
left_at most times behind r words hash (call.Probe array size passed) =
    (size - passed) + 1 + once_met most times behind r array
left_at most times behind r words hash (call.Choose array size passed found) = 1
left_at most times behind r words hash (call.Change array size passed from to) =
    if word_eq (word_at (words array) (bucket_at size hash passed)) from then 1
    else (size - passed) + 2 + once_met most times behind r array
left_at most times behind r words hash (call.Walk array size index nodes) =
    (size - index) + 1 + once_met most times behind r array
left_at most times behind r words hash (call.Seal array size index kept) =
    2 * (size - index) + 3 + most + once_grown most times behind r (Some array)
left_at most times behind r words hash (call.Close array size index word own kept) =
    (if word_eq (word_at (words array) index) word then 2 * (size - index) +
    2 else 2 * (size - index) + 4)
    + most + once_grown most times behind r (Some array)
left_at most times behind r words hash (call.Next array size kept) =
    3 + most + once_grown most times behind r array
left_at most times behind r words hash (call.Link array size kept) =
    2 + most + once_grown most times behind r array
left_at most times behind r words hash (call.Copy from array index laid) =
    (length laid - index) + 1 + once_grown most times behind r from
left_at most times behind r words hash (call.Swing from array) =
    1 + once_grown most times behind r from

-- how many steps the call makes at most, if no other makes one
abbrev pub left : (first peak : ℕ) → Memory → Call → ℕ
left first peak m c =
    left_at (longest first peak) (hints c.kind c.spent)
    (is_behind c.kind (root m) (words_of m (root m))) (root m) m.words c.hash c.point
