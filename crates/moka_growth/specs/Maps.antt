-- The map that the words of a segment stand for: under each key the node that the root stores.
use Rattle.std.specs.Prelude.{◌≡◌, ◌↔◌, ℕ, ◌+◌, ◌≤◌, Bool, true, false, List, length, Option, Some, None}
use Rattle.std.specs.Option.{option_to_list}
use Rattle.std.specs.List.Sorted.{IsPermutation}
use Rattle.moka_words.specs.declared.accesses.Choice.TheVariants as choice
use Rattle.moka_words.specs.declared.accesses.Seen.{Seen}
use Rattle.moka_words.specs.declared.accesses.Seen.TheVariants as seen
use Rattle.moka_words.specs.Words.{stored_in}
use Rattle.moka_words.specs.Layout.{IsStored, stored_nodes}
use Rattle.moka_words.specs.Effect.{Memory, array_at, root, words_of}
use Rattle.moka_growth.specs.Calls.{Point, Call, Ending, Step}
use Rattle.moka_growth.specs.Calls as call

-- the nodes that the root stores
abbrev pub present_nodes : Memory → List ℕ
present_nodes m = stored_nodes (words_of m (root m))

abbrev pub IsPresent : Memory → ℕ → Type 0
IsPresent m n = IsStored (words_of m (root m)) n

-- the same nodes are present, in whatever order
abbrev pub KeepsMap : (old new : Memory) → Type 0
KeepsMap old new = IsPermutation (present_nodes old) (present_nodes new)

-- the node present under the call's key
abbrev pub Finds : (own : ℕ → Bool) → Memory → Option ℕ → Type 0
Finds own m None = (n : ℕ) → IsPresent m n → own n ≡ false
Finds own m (Some n) = IsPresent m n × (own n ≡ true)

-- the call's key has another node in place of this one, or none; other keys have theirs
pub record ChangesMap (own : ℕ → Bool) (before after : Option ℕ) (old new : Memory) : Type 0 where
  pub others : (n : ℕ) → own n ≡ false → IsPresent old n ↔ IsPresent new n
  pub key : (n : ℕ) → own n ≡ true → IsPresent new n ↔ (after ≡ Some n)
  pub count : length (present_nodes new) + length (option_to_list before) ≡
      length (present_nodes old) + length (option_to_list after)

-- the node that a change stores
abbrev pub stores : Point → Option ℕ
stores (call.Change array size passed from to) = stored_in to
stores p = None

-- what a call's ending says of the memory before its last access and after it; what it lists is
-- said elsewhere
abbrev pub Ends : (own : ℕ → Bool) → Point → Ending → (old new : Memory) → Type 0
Ends own p (call.Kept found) old new = Finds own old found × KeepsMap old new
Ends own p (call.Changed found) old new =
    Finds own old found × ChangesMap own found (stores p) old new
Ends own p (call.Nodes nodes) old new = KeepsMap old new

-- the node that is to be stored has the call's key
abbrev pub IsChoice : (own : ℕ → Bool) → Seen → Type 0
IsChoice own (seen.Chosen (choice.Put n)) = own n ≡ true
IsChoice own s = Unit {0}

-- nothing has changed in this segment, while a call made an access to another one
pub record IsElsewhere (old new : Memory) : Type 0 where
  pub words : (place a : ℕ) → array_at old place ≡ Some a → new.words a ≡ old.words a
  pub arrays : new.arrays ≡ old.arrays
  pub rooted : new.rooted ≡ old.rooted
  pub fresh : old.fresh ≤ new.fresh
