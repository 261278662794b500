-- What a probe meets in a word.
use Rattle.std.specs.Prelude.{◌≡◌, ◌⊎◌, ℕ, Bool, true, false, List, Option, Some, None}
use denote.Ref.{Bor}
use Rattle.moka_words.specs.declared.words.Word.{Word}
use Rattle.moka_words.specs.declared.words.Word.TheVariants.{Unset, Empty, Live, Tomb, SealedEmpty, SealedLive, SealedTomb}
use Rattle.moka_words.specs.Words.{is_sealed, node_of}
use Rattle.moka_shelf.specs.Looks.{Hiding, Rises}
use Rattle.moka_shared.specs.declared.probe.Met.{Met}
use Rattle.moka_shared.specs.declared.probe.Met.TheVariants as met
use Rattle.moka_shared.specs.Nodes.{NodeView}

module _ {K V : Type 0} (own : K → Bool) (pairs : ℕ → Option (K × V)) where
  -- the test answers so of the key of this number's pair
  abbrev pub Tells : (number : ℕ) → Bool → Type 0
  Tells number answer = (p : K × V) → pairs number ≡ Some p → own p.0 ≡ answer

  -- the word is free, or of a key that the test is true of
  abbrev pub IsOpenBy : Word → Type 0
  IsOpenBy Unset = ⊥
  IsOpenBy Empty = Unit {0}
  IsOpenBy (Live n) = Tells n true
  IsOpenBy (Tomb n) = Tells n true
  IsOpenBy SealedEmpty = ⊥
  IsOpenBy (SealedLive n) = ⊥
  IsOpenBy (SealedTomb n) = ⊥

  -- the word is another key's
  abbrev pub IsOthers : Word → Type 0
  IsOthers w = (n : ℕ) × (node_of w ≡ Some n) × Tells n false × (is_sealed w ≡ false)

module _ {K V N : Type 0} (own : K → Bool) (pairs : ℕ → Option (K × V)) where
  -- what is known of the number of a node
  abbrev pub Tests : (number : ℕ) → Met N → Type 0
  Tests number (met.Open shown) = Tells own pairs number true
  Tests number met.Other = Tells own pairs number false
  Tests number (met.Hidden n) = Unit {0}
  Tests number met.Sealed = ⊥

  -- what is known of a word
  abbrev pub Meets : Word → Met N → Type 0
  Meets w (met.Open shown) = IsOpenBy own pairs w
  Meets w met.Other = IsOthers own pairs w
  Meets w (met.Hidden n) = Unit {0}
  Meets w met.Sealed = Unit {0}

-- the word never changes again, or nobody has set it yet
abbrev pub IsShut : Word → Type 0
IsShut w = (w ≡ Unset) ⊎ (is_sealed w ≡ true)

-- the look has counted this node as hidden, the last of all
abbrev pub Hides : (number : ℕ) → (old new : Hiding) → Type 0
Hides number old new = Rises old.count new.count × (new.last ≡ number)

module _ {K V S : Type 0} (names : List ℕ) where
  -- the node of this number, of the table of these names
  abbrev pub IsShown : (number : ℕ) → Option (Bor (NodeView K V S)) → Type 0
  IsShown number None = ⊥
  IsShown number (Some item) = (item.now.number ≡ number) × (item.now.names ≡ names)

  -- the node that the word names, if it names one
  abbrev pub HasNode : Word → Option (Bor (NodeView K V S)) → Type 0
  HasNode w shown = (n : ℕ) → node_of w ≡ Some n → IsShown n shown

  -- what became of the look, where the word names this node
  abbrev pub Shows : (number : ℕ) → (old new : Hiding) → Met (NodeView K V S) → Type 0
  Shows number old new (met.Open shown) = (new ≡ old) × IsShown number shown
  Shows number old new met.Other = new ≡ old
  Shows number old new (met.Hidden n) = (n ≡ number) × Hides number old new
  Shows number old new met.Sealed = ⊥

  -- what became of the look, by the word
  abbrev pub Stops : Word → (old new : Hiding) → Met (NodeView K V S) → Type 0
  Stops w old new (met.Open shown) = (new ≡ old) × HasNode w shown
  Stops w old new met.Other = new ≡ old
  Stops w old new (met.Hidden n) = (node_of w ≡ Some n) × Hides n old new
  Stops w old new met.Sealed = IsShut w × (new ≡ old)
