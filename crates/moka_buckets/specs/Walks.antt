-- What a call knows that lists the keys of a segment, and what it has listed.
use Rattle.std.specs.Prelude.{◌≡◌, ◌⊎◌, ℕ, ◌<◌, ◌≤◌, ◌++◌, Bool, true, false, List, [], length, Option, None, Some, IsSome, if◌then◌else◌}
use Rattle.std.specs.List.{slice_get}
use Rattle.std.specs.Option.{option_map, option_to_list}
use Rattle.moka_words.specs.declared.words.Word.{Word}
use Rattle.moka_words.specs.Words.{is_sealed, stored_in, word_at}
use Rattle.moka_words.specs.Effect.{Memory, LaterMemory, array_at}
use Rattle.moka_growth.specs.declared.kinds.CallKind.TheVariants as kind
use Rattle.moka_growth.specs.Calls.{Point, Call, Ending, Step, Going, Decided}
use Rattle.moka_growth.specs.Calls as call
use Rattle.moka_growth.specs.Fits.{Fits}
use Rattle.moka_growth.specs.Left.{left}
use Rattle.moka_growth.specs.Listing.{listed, Differ, Lists, HasListed, ListsKey}
use Rattle.moka_calls.specs.Standing.{IsGoing, listed_next}
use Rattle.moka_buckets.specs.declared.node.Node.{Node}
use Rattle.moka_pairs.specs.Keys.{hash_by, same_by, own_by}
use Rattle.moka_buckets.specs.Nodes.{key_in, Agrees}
use Rattle.moka_buckets.specs.Tables.{map_of, left_in, IsWell}

-- the call seeks no key
abbrev pub IsNoSeek : Point → Type 0
IsNoSeek (call.Probe array size passed) = ⊥
IsNoSeek (call.Choose array size passed found) = ⊥
IsNoSeek (call.Change array size passed from to) = ⊥
IsNoSeek p = Unit {0}

-- no node has a key of its own
abbrev pub owns_none : ℕ → Bool
owns_none n = false

-- the nodes that a call ended with
abbrev pub listed_in : Ending → List ℕ
listed_in (call.Kept found) = []
listed_in (call.Changed found) = []
listed_in (call.Nodes nodes) = nodes

-- those that it has listed so far, or in all
abbrev pub listed_by : Step → List ℕ
listed_by (Going c) = listed c.point
listed_by (Decided e) = listed_in e

abbrev pub is_ended : Step → Bool
is_ended (Going c) = false
is_ended (Decided e) = true

-- the word that the call lists next, where it lists one, and the node stored there
abbrev pub word_next : Memory → Step → Option Word
word_next m s = option_map {U = Word} (λ place. word_at (m.words place.0) place.1) (listed_next s)

abbrev pub node_next : Option Word → List ℕ
node_next None = []
node_next (Some w) = option_to_list (stored_in w)

-- A list after a step: a word that is listed adds what it stores, and a sealed one drops the list;
-- without such a word there is none.
abbrev pub carried : {A : Type 0} → List A → Option Word → (more : List A) → List A
carried xs None more = []
carried xs (Some w) more = if is_sealed w then [] else xs ++ more

-- it is nearer to its end, if it goes on
abbrev pub Falls : (first peak : ℕ) → (old : Memory) → Step → (new : Memory) → Step → Type 0
Falls first peak old before new (Going d) = left first peak new d < left_in first peak old before
Falls first peak old before new (Decided e) = Unit {0}

-- a call has listed no more nodes than it passed words
abbrev pub ListsFew : Point → Type 0
ListsFew (call.Walk array size index nodes) = length nodes ≤ index
ListsFew p = Unit {0}

-- no more nodes than some array of the segment has words
abbrev pub AreFew : Memory → List ℕ → Type 0
AreFew m ns = (ns ≡ []) ⊎ ((place a : ℕ) × (array_at m place ≡ Some a) × (length ns ≤ length (m.words a)))

module _ {K V : Type 0} where
  -- each of them is a node
  abbrev pub AreNodes : List (Node K V) → List ℕ → Type 0
  AreNodes nodes ns = (x n : ℕ) → slice_get ns x ≡ Some n → IsSome (key_in nodes n)

  -- A call that goes on, whatever keys are still to come: it has listed no key twice, and none but
  -- those of buckets that it passed.
  pub record Walks (eq : K → K → Bool) (hash : K → ℕ) (m : Memory) (nodes : List (Node K V))
      (c : Call) : Type 0 where
    pub kind : c.kind ≡ kind.Keys
    pub seeks : IsNoSeek c.point
    pub fits : (keys : ℕ → Option K) → Agrees keys nodes → Fits (hash_by hash keys) owns_none m c
    pub lists : (keys : ℕ → Option K) → Agrees keys nodes → Lists (same_by eq keys) m c.point
    pub named : AreNodes nodes (listed c.point)
    pub few : ListsFew c.point

  -- one that has ended has listed no key twice
  pub record Walked (eq : K → K → Bool) (m : Memory) (nodes : List (Node K V)) (e : Ending) : Type 0 where
    pub differ : Differ (same_by eq (key_in nodes)) (listed_in e)
    pub named : AreNodes nodes (listed_in e)
    pub few : AreFew m (listed_in e)

  abbrev pub WalksOn : (K → K → Bool) → (K → ℕ) → Memory → List (Node K V) → Step → Type 0
  WalksOn eq hash m nodes (Going c) = Walks eq hash m nodes c
  WalksOn eq hash m nodes (Decided e) = Walked eq m nodes e

  -- the call lists this key, if the key stays: it has listed it, or has yet to come to its bucket
  abbrev pub Covers : (K → K → Bool) → Memory → List (Node K V) → (key : K) → Step → Type 0
  Covers eq m nodes key (Going c) = (keys : ℕ → Option K) → Agrees keys nodes →
      ListsKey (own_by eq keys key) m c.point
  Covers eq m nodes key (Decided e) = HasListed (own_by eq (key_in nodes) key) (listed_in e)

  -- each of these nodes was listed before, or its key is one of the map's
  abbrev pub AreOfMap : (K → K → Bool) → Memory → List (Node K V) → (before after : List ℕ) → Type 0
  AreOfMap eq m nodes before after =
      (x n : ℕ) → slice_get after x ≡ Some n →
      ((y : ℕ) × (slice_get before y ≡ Some n)) ⊎
      ((key : K) → key_in nodes n ≡ Some key → IsSome (map_of eq m nodes key))

  -- What one step of the call does: the map stays, and so does the count of keys; it is nearer to
  -- its end, or has ended. What it lists anew was in the
  -- map, and a key that was there it goes on to cover. Operations on the segment still fit.
  pub record Lead (eq : K → K → Bool) (hash : K → ℕ) (nodes : List (Node K V)) (first peak : ℕ)
      (old : Memory) (before : Step)
      (new : Memory) (after : Step) : Type 0 where
    pub well : IsWell eq hash new nodes first peak
    pub map : (key : K) → map_of eq new nodes key ≡ map_of eq old nodes key
    pub count : new.len ≡ old.len
    pub walks : WalksOn eq hash new nodes after
    pub falls : Falls first peak old before new after
    pub lists : AreOfMap eq old nodes (listed_by before) (listed_by after)
    pub covers : (key : K) → IsSome (map_of eq old nodes key) → Covers eq old nodes key before →
        Covers eq new nodes key after
    pub later : (keys : ℕ → Option K) → Agrees keys nodes → LaterMemory (same_by eq keys) old new
    pub adds : listed_by after
        ≡ carried (listed_by before) (word_next old before) (node_next (word_next old before))

  -- what a step of the call may rest on
  pub record CanWalk (eq : K → K → Bool) (hash : K → ℕ) (m : Memory) (nodes : List (Node K V))
      (first peak : ℕ) (c : Step) : Type 0 where
    pub respects : (x y : K) → eq x y ≡ true → hash x ≡ hash y
    pub well : IsWell eq hash m nodes first peak
    pub going : IsGoing c
    pub walks : WalksOn eq hash m nodes c
