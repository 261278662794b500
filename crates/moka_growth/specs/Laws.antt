-- What holds of a growing segment, whatever the hashes are and whichever nodes have one key.
use Rattle.std.specs.Prelude.{◌≡◌, ℕ, ◌+◌, ◌*◌, ◌<◌, ◌≤◌, Bool, true, false, List, [], ◌∷◌, length, replicate, Some}
use Rattle.std.specs.Int.{IsPowerOfTwo}
use Rattle.std.specs.List.Sorted.{IsPermutation}
use Rattle.moka_words.specs.declared.words.Word.TheVariants.{Empty}
use Rattle.moka_words.specs.declared.accesses.Seen.{Seen}
use Rattle.moka_words.specs.Words.{is_sealed, word_at, NamesKeys}
use Rattle.moka_words.specs.Layout.{stored_nodes, layout}
use Rattle.moka_words.specs.Effect.{Memory, root, words_of, Effect, LaterMemory}
use Rattle.moka_words.specs.Later.{IsOwn}
use Rattle.moka_growth.specs.Sound.{IsRoot, IsSound}
use Rattle.moka_growth.specs.Calls.{Call, Ending, Nodes, Step, Going, Decided, access_of, next_of, call_from}
use Rattle.moka_growth.specs.Fits.{IsKey, HasBeenRoot, Fits, Rests}
use Rattle.moka_growth.specs.Maps.{present_nodes, IsPresent, KeepsMap, Ends, IsChoice, IsElsewhere}
use Rattle.moka_growth.specs.Counts.{Recounts, IsCounted}
use Rattle.moka_growth.specs.Listing.{listed, Differ, Lists, HasListed, ListsKey, HasKey, ArePresent}
use Rattle.moka_growth.specs.Turns.{Leads, Turn, Scene, IsGood, Happen, AreGood}
use Rattle.moka_growth.specs.Left.{IsShort, left}

-- a call that fits makes its access
pub record Makes (hash : ℕ → ℕ) (same : ℕ → ℕ → Bool) (mine own : ℕ → Bool) (c : Call) (s : Seen)
    (old new : Memory) : Type 0 where
  pub names : NamesKeys hash same
  pub key : IsKey hash same mine own c.hash
  pub sound : IsSound hash same mine old
  pub fits : Fits hash own old c
  pub effect : Effect hash own (access_of c) s old new
  pub choice : IsChoice own s

-- the segment stays sound
abbrev pub AccessKeepsSound : Type 0
AccessKeepsSound =
    (hash : ℕ → ℕ) (same : ℕ → ℕ → Bool) (mine own : ℕ → Bool) (c : Call) (s : Seen)
    (old new : Memory) →
    Makes hash same mine own c s old new → IsSound hash same mine new

-- the memory is a later one
abbrev pub AccessIsLater : Type 0
AccessIsLater =
    (hash : ℕ → ℕ) (same : ℕ → ℕ → Bool) (mine own : ℕ → Bool) (c : Call) (s : Seen)
    (old new : Memory) →
    Makes hash same mine own c s old new → LaterMemory same old new

-- later memories of later ones are later
abbrev pub LaterMemoryGoesOn : Type 0
LaterMemoryGoesOn =
    (hash : ℕ → ℕ) (same : ℕ → ℕ → Bool) (old mid new : Memory) → NamesKeys hash same →
    LaterMemory same old mid → LaterMemory same mid new → LaterMemory same old new

-- a call that fits a memory fits each later one
abbrev pub FitsLasts : Type 0
FitsLasts =
    (hash : ℕ → ℕ) (same : ℕ → ℕ → Bool) (mine own : ℕ → Bool) (c : Call) (old new : Memory) →
    NamesKeys hash same →
    IsKey hash same mine own c.hash → IsSound hash same mine old → LaterMemory same old new →
    Rests c.point → Fits hash own old c →
    Fits hash own new c

-- a call begins to fit every memory
abbrev pub CallFits : Type 0
CallFits =
    (hash : ℕ → ℕ) (own : ℕ → Bool) (m : Memory) (c : Call) → (c ≡ call_from c.kind c.hash) →
    Fits hash own m c

-- a call that goes on fits the memory that its access left
abbrev pub FitsGoesOn : Type 0
FitsGoesOn =
    (hash : ℕ → ℕ) (same : ℕ → ℕ → Bool) (mine own : ℕ → Bool) (c d : Call) (s : Seen)
    (old new : Memory) →
    Makes hash same mine own c s old new → next_of c s ≡ Going d → Fits hash own new d

-- a step that leaves the call going leaves the map
abbrev pub GoingKeepsMap : Type 0
GoingKeepsMap =
    (hash : ℕ → ℕ) (same : ℕ → ℕ → Bool) (mine own : ℕ → Bool) (c d : Call) (s : Seen)
    (old new : Memory) →
    Makes hash same mine own c s old new → next_of c s ≡ Going d → KeepsMap old new

-- a step that ends the call gives the map's answer, and makes its change
abbrev pub EndingIsMaps : Type 0
EndingIsMaps =
    (hash : ℕ → ℕ) (same : ℕ → ℕ → Bool) (mine own : ℕ → Bool) (c : Call) (e : Ending) (s : Seen)
    (old new : Memory) →
    Makes hash same mine own c s old new → next_of c s ≡ Decided e → Ends own c.point e old new

-- under each key at most one node is present, and it is one of the segment
abbrev pub PresentIsOne : Type 0
PresentIsOne =
    (hash : ℕ → ℕ) (same : ℕ → ℕ → Bool) (mine : ℕ → Bool) (m : Memory) (n k : ℕ) →
    IsSound hash same mine m → IsPresent m n →
    IsPresent m k → same n k ≡ true → n ≡ k

abbrev pub PresentIsMine : Type 0
PresentIsMine =
    (hash : ℕ → ℕ) (same : ℕ → ℕ → Bool) (mine : ℕ → Bool) (m : Memory) (n : ℕ) →
    IsSound hash same mine m → IsPresent m n →
    mine n ≡ true

-- a segment to which no access is made stays sound, and its memory is a later one with the same map
abbrev pub ElsewhereKeepsSound : Type 0
ElsewhereKeepsSound =
    (hash : ℕ → ℕ) (same : ℕ → ℕ → Bool) (mine : ℕ → Bool) (old new : Memory) →
    NamesKeys hash same → IsSound hash same mine old →
    IsElsewhere old new → IsSound hash same mine new × LaterMemory same old new × KeepsMap old new

-- arrays stay short, and a segment that has room for more keys stays short
abbrev pub ShortStays : Type 0
ShortStays =
    (hash : ℕ → ℕ) (same : ℕ → ℕ → Bool) (mine own : ℕ → Bool) (c : Call) (s : Seen)
    (old new : Memory) (first peak : ℕ) →
    Makes hash same mine own c s old new → IsShort first peak old →
    length (present_nodes new) ≤ peak → IsShort first peak new

abbrev pub ShortGrows : Type 0
ShortGrows =
    (m : Memory) (first peak more : ℕ) → IsShort first peak m → peak ≤ more → IsShort first more m

-- a fitting call has few steps left
abbrev pub LeftIsBounded : Type 0
LeftIsBounded =
    (hash : ℕ → ℕ) (own : ℕ → Bool) (c : Call) (m : Memory) (first peak : ℕ) → Fits hash own m c →
    IsShort first peak m → left first peak m c ≤ 16 * (first + 3 * peak) + 32

-- a step that leaves the call going lowers how many it has left; to ask what is to be done, which
-- belongs to the step before, doesn't raise it
abbrev pub LeftFalls : Type 0
LeftFalls =
    (hash : ℕ → ℕ) (same : ℕ → ℕ → Bool) (mine own : ℕ → Bool) (c d : Call) (s : Seen)
    (old new : Memory) (first peak : ℕ) →
    Makes hash same mine own c s old new → IsShort first peak old → next_of c s ≡ Going d →
    (Rests c.point → left first peak new d < left first peak old c) ×
    (left first peak new d ≤ left first peak old c)

-- the count of keys is right
abbrev pub CountStays : Type 0
CountStays =
    (hash : ℕ → ℕ) (same : ℕ → ℕ → Bool) (mine own : ℕ → Bool) (c : Call) (s : Seen)
    (old new : Memory) →
    Makes hash same mine own c s old new → Recounts (access_of c) s old new → IsCounted old →
    IsCounted new

-- a segment without arrays is sound, and one with a root alone
abbrev pub NoneIsSound : Type 0
NoneIsSound =
    (hash : ℕ → ℕ) (same : ℕ → ℕ → Bool) (mine : ℕ → Bool) (m : Memory) → m.arrays ≡ [] →
    m.rooted ≡ 0 → IsSound hash same mine m

abbrev pub OneIsSound : Type 0
OneIsSound =
    (hash : ℕ → ℕ) (same : ℕ → ℕ → Bool) (mine : ℕ → Bool) (m : Memory) (a : ℕ) →
    m.arrays ≡ a ∷ [] → m.rooted ≡ 1 →
    a < m.fresh → IsPowerOfTwo (length (m.words a)) → IsRoot hash same mine (m.words a) →
    IsSound hash same mine m

-- a root of empty words; and one in which the present nodes of a segment are laid out, where there
-- is room for them
abbrev pub EmptyIsRoot : Type 0
EmptyIsRoot =
    (hash : ℕ → ℕ) (same : ℕ → ℕ → Bool) (mine : ℕ → Bool) (size : ℕ) →
    IsRoot hash same mine (replicate size Empty)

abbrev pub LaidIsRoot : Type 0
LaidIsRoot =
    (hash : ℕ → ℕ) (same : ℕ → ℕ → Bool) (mine : ℕ → Bool) (m : Memory) (size : ℕ) →
    NamesKeys hash same → IsSound hash same mine m →
    length (present_nodes m) ≤ size →
    IsRoot hash same mine (layout hash (words_of m (root m)) size)
    × IsPermutation (present_nodes m) (stored_nodes (layout hash (words_of m (root m)) size))

-- a word that is not sealed, in an array that has been root, is one of the root
abbrev pub UnsealedIsRoots : Type 0
UnsealedIsRoots =
    (hash : ℕ → ℕ) (same : ℕ → ℕ → Bool) (mine : ℕ → Bool) (m : Memory) (a i : ℕ) →
    IsSound hash same mine m → HasBeenRoot m a →
    i < length (m.words a) → is_sealed (word_at (m.words a) i) ≡ false → root m ≡ Some a

-- what a call has listed lasts; of a key it lasts while the key is present
abbrev pub ListingLasts : Type 0
ListingLasts =
    (hash : ℕ → ℕ) (same : ℕ → ℕ → Bool) (mine own : ℕ → Bool) (c : Call) (old new : Memory) →
    NamesKeys hash same →
    IsSound hash same mine old → LaterMemory same old new → Fits hash own old c →
    Lists same old c.point → Lists same new c.point

abbrev pub ListedKeyLasts : Type 0
ListedKeyLasts =
    (hash : ℕ → ℕ) (same : ℕ → ℕ → Bool) (mine own key : ℕ → Bool) (c : Call) (old new : Memory) →
    IsOwn same key →
    IsSound hash same mine old → IsSound hash same mine new → LaterMemory same old new →
    Fits hash own old c → HasKey key old →
    ListsKey key old c.point → ListsKey key new c.point

-- a call that goes on lists each key once, each that is present when it passes the key's bucket,
-- and no node that is not present then
abbrev pub ListingGoesOn : Type 0
ListingGoesOn =
    (hash : ℕ → ℕ) (same : ℕ → ℕ → Bool) (mine own : ℕ → Bool) (c d : Call) (s : Seen)
    (old new : Memory) →
    Makes hash same mine own c s old new → Lists same old c.point → next_of c s ≡ Going d →
    Lists same new d.point × ArePresent (listed c.point) (listed d.point) old

abbrev pub ListedKeyGoesOn : Type 0
ListedKeyGoesOn =
    (hash : ℕ → ℕ) (same : ℕ → ℕ → Bool) (mine own key : ℕ → Bool) (c d : Call) (s : Seen)
    (old new : Memory) →
    Makes hash same mine own c s old new → IsOwn same key → HasKey key old →
    ListsKey key old c.point → next_of c s ≡ Going d →
    ListsKey key new d.point

-- and so does one that ends with its list; it has each key that has stayed present
abbrev pub ListingEnds : Type 0
ListingEnds =
    (hash : ℕ → ℕ) (same : ℕ → ℕ → Bool) (mine own : ℕ → Bool) (c : Call) (nodes : List ℕ)
    (s : Seen) (old new : Memory) →
    Makes hash same mine own c s old new → Lists same old c.point →
    next_of c s ≡ Decided (Nodes nodes) →
    Differ same nodes × ArePresent (listed c.point) nodes old

abbrev pub ListedKeyEnds : Type 0
ListedKeyEnds =
    (hash : ℕ → ℕ) (same : ℕ → ℕ → Bool) (mine own key : ℕ → Bool) (c : Call) (nodes : List ℕ)
    (s : Seen) (old new : Memory) →
    Makes hash same mine own c s old new → IsOwn same key → HasKey key old →
    ListsKey key old c.point →
    next_of c s ≡ Decided (Nodes nodes) → HasListed key nodes

-- one step of a fitting call: it goes on fitting, with the map kept and fewer steps left, or ends
-- by the map
abbrev pub TurnIsMaps : Type 0
TurnIsMaps =
    (hash : ℕ → ℕ) (same : ℕ → ℕ → Bool) (mine own : ℕ → Bool) (c : Call) (old : Memory)
    (step : Step) (new : Memory) (first peak : ℕ) →
    NamesKeys hash same → IsKey hash same mine own c.hash → IsSound hash same mine old →
    Fits hash own old c → Rests c.point →
    IsShort first peak old → Turn hash own c old step new →
    IsSound hash same mine new × LaterMemory same old new
    × Leads step (λ d. IsKey hash same mine own d.hash × Fits hash own new d × Rests d.point ×
    KeepsMap old new × (left first peak new d < left first peak old c))
    (λ e. Ends own c.point e old new)

-- whatever happens in whatever order, the segment is sound, and each call fits
abbrev pub EachOrderIsGood : Type 0
EachOrderIsGood =
    (hash : ℕ → ℕ) (same : ℕ → ℕ → Bool) (mine : ℕ → Bool) (s : Scene) (more : List Scene) →
    NamesKeys hash same →
    IsGood hash same mine s → Happen hash same mine s more → AreGood hash same mine more

-- a fitting call can make its access
abbrev pub AccessCanBeMade : Type 0
AccessCanBeMade =
    (hash : ℕ → ℕ) (same : ℕ → ℕ → Bool) (mine own : ℕ → Bool) (c : Call) (m : Memory) →
    IsSound hash same mine m → Fits hash own m c →
    (s : Seen) × (new : Memory) × Effect hash own (access_of c) s m new
