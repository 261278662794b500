-- What a memory must have for an access to be made there.
use Rattle.std.specs.Prelude.{◌≡◌, ℕ, ◌<◌, ◌^◌, Bool, true, false, List, Some, IsSome}
use Rattle.moka_words.specs.declared.words.Word.{Word}
use Rattle.moka_words.specs.declared.words.Word.TheVariants.{Unset, Empty, Live, Tomb, SealedEmpty, SealedLive, SealedTomb}
use Rattle.moka_words.specs.declared.accesses.Access.{Access}
use Rattle.moka_words.specs.declared.accesses.Access.TheVariants as access
use Rattle.moka_words.specs.Words.{stored_in, word_at}
use Rattle.moka_words.specs.Effect.{Memory, StandsBefore, array_at, root}
use Rattle.moka_buckets.specs.declared.node.Node.{Node}
use Rattle.moka_buckets.specs.Nodes.{IsNamed}

abbrev pub is_tomb : Word → Bool
is_tomb Unset = false
is_tomb Empty = false
is_tomb (Live n) = false
is_tomb (Tomb n) = true
is_tomb SealedEmpty = false
is_tomb (SealedLive n) = false
is_tomb (SealedTomb n) = false

-- An array of which another one is asked stands in the segment; a word that is loaded names one of
-- the nodes; a key whose word is exchanged is counted, and a tombstone takes a key's place; a swing
-- from the root is to the array after it. A question is no access.
abbrev pub CanMake : {K V : Type 0} → Memory → List (Node K V) → Access → Type 0
CanMake m nodes access.LoadRoot = Unit {0}
CanMake m nodes (access.LoadWord array index) = IsNamed nodes (word_at (m.words array) index)
CanMake m nodes (access.Choose present) = ⊥
CanMake m nodes (access.Exchange array index from to) =
    (word_at (m.words array) index ≡ from → IsSome (stored_in from) → 0 < m.len)
    × (is_tomb to ≡ true → IsSome (stored_in from)) × (m.len < 2 ^ 63)
CanMake m nodes (access.LoadNext array) = (place : ℕ) × StandsBefore m place array
CanMake m nodes (access.Link array size) = (place : ℕ) × StandsBefore m place array
CanMake m nodes (access.Copy array index to) = Unit {0}
CanMake m nodes (access.Swing from to) = root m ≡ from → array_at m m.rooted ≡ Some to
