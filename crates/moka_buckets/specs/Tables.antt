-- What a table keeps, what its calls know, and the map that it stands for.
use Rattle.std.specs.Prelude.{◌≡◌, ℕ, Bool, true, false, cond, List, Option, Some, None, IsSome, is_some, if◌then◌else◌}
use Rattle.std.specs.Option.{option_map}
use Rattle.moka_hist.specs.Tables.{taken_by}
use Rattle.moka_hist.specs.declared.records.Stored.{Stored}
use Rattle.moka_buckets.specs.KeyOps.{key_of}
use Rattle.moka_buckets.specs.declared.key_op.KeyOp.{KeyOp}
use Rattle.moka_buckets.specs.declared.key_op.KeyOp.TheVariants as op
use Rattle.moka_words.specs.declared.words.Word.{Word}
use Rattle.moka_words.specs.declared.words.Word.TheVariants.{Unset, Empty, Live, Tomb, SealedEmpty, SealedLive, SealedTomb}
use Rattle.moka_words.specs.declared.accesses.Access.{Access}
use Rattle.moka_words.specs.declared.accesses.Access.TheVariants as access
use Rattle.moka_words.specs.declared.accesses.Choice.{Choice}
use Rattle.moka_words.specs.declared.accesses.Choice.TheVariants as choice
use Rattle.moka_words.specs.Words.{stored_in, word_at}
use Rattle.moka_words.specs.Effect.{Memory}
use Rattle.moka_growth.specs.declared.kinds.CallKind.{CallKind}
use Rattle.moka_growth.specs.declared.kinds.CallKind.TheVariants as kind
use Rattle.moka_growth.specs.Calls.{Point, Call, Step, Going, Decided}
use Rattle.moka_growth.specs.Calls as call
use Rattle.moka_growth.specs.Fits.{Rests}
use Rattle.moka_growth.specs.Counts.{IsCounted}
use Rattle.moka_growth.specs.Left.{IsShort, left}
use Rattle.moka_table.specs.Map.{Pairs}
use Rattle.moka_buckets.specs.declared.node.Node.{Node}
use Rattle.moka_pairs.specs.Pairs as numbered
use Rattle.moka_pairs.specs.Segments.{FitsAll, SoundAll}
use Rattle.moka_buckets.specs.Nodes.{key_in, pair_in, pair_at, AreHashed}

-- no operation lists the nodes of a segment
abbrev pub IsNoWalk : Point → Type 0
IsNoWalk (call.Walk array size index nodes) = ⊥
IsNoWalk p = Unit {0}

-- the live node of the word, if it has the call's key
abbrev pub found_at : (own : ℕ → Bool) → Word → Option ℕ
found_at own Unset = None
found_at own Empty = None
found_at own (Live n) = if own n then Some n else None
found_at own (Tomb n) = None
found_at own SealedEmpty = None
found_at own (SealedLive n) = None
found_at own (SealedTomb n) = None

-- the node that is there no more, once its word was exchanged for another's or for a tombstone
abbrev pub found_before : (from to : Word) → Option ℕ
found_before from (Live n) = stored_in from
found_before from (Tomb n) = stored_in from
found_before from to = None

-- the node that a loaded word stores under the call's key
abbrev pub found_loaded : (own : ℕ → Bool) → Memory → Access → Option ℕ
found_loaded own m (access.LoadWord array index) = found_at own (word_at (m.words array) index)
found_loaded own m a = None

-- the word that takes the place of this one
abbrev pub put_by : Choice → Word → Option Word
put_by choice.Keep found = None
put_by (choice.Put n) found = Some (Live n)
put_by choice.Remove found = option_map Tomb (stored_in found)

-- the node, if there is one, takes the place
abbrev pub put_of : (made : Option ℕ) → Choice
put_of None = choice.Keep
put_of (Some n) = choice.Put n

-- what a call has left, if it goes on
abbrev pub left_in : (first peak : ℕ) → Memory → Step → ℕ
left_in first peak m (Going c) = left first peak m c
left_in first peak m (Decided e) = 0

module _ {K V : Type 0} where
  -- the pair of the node that is present under the key
  abbrev pub map_of : (K → K → Bool) → Memory → List (Node K V) → Pairs K V
  map_of eq m nodes key = numbered.map_of eq m (key_in nodes) (pair_in nodes) key

  -- The segment is sound, and short for the most keys that it had; the count of keys is right. Of
  -- keys that are still to come nothing is said:
  -- so it stays whatever nodes come.
  pub record IsWell (eq : K → K → Bool) (hash : K → ℕ) (m : Memory) (nodes : List (Node K V))
      (first peak : ℕ) : Type 0 where
    pub sound : SoundAll eq hash (key_in nodes) m
    pub hashed : AreHashed hash nodes
    pub counted : IsCounted m
    pub short : IsShort first peak m

  abbrev pub kind_of : KeyOp K V → CallKind
  kind_of (op.Get key) = kind.Get
  kind_of (op.InsertOrModify key stored) = kind.Insert
  kind_of (op.InsertIfAbsent key stored) = kind.Insert
  kind_of (op.RemoveIf key stamp) = kind.Remove

  -- the pair that the operation stores
  abbrev pub stored_by : KeyOp K V → Option (K × Stored V)
  stored_by (op.Get key) = None
  stored_by (op.InsertOrModify key stored) = Some (key, stored)
  stored_by (op.InsertIfAbsent key stored) = Some (key, stored)
  stored_by (op.RemoveIf key stamp) = None

  -- the operation answers the pair that it leaves
  abbrev pub is_look : KeyOp K V → Bool
  is_look (op.Get key) = true
  is_look (op.InsertOrModify key stored) = false
  is_look (op.InsertIfAbsent key stored) = true
  is_look (op.RemoveIf key stamp) = false

  -- What is to be done where this node is present under the key: `made` has the pair to be stored.
  abbrev pub choose : List (Node K V) → KeyOp K V → (made present : Option ℕ) → Choice
  choose nodes (op.Get key) made present = choice.Keep
  choose nodes (op.InsertOrModify key stored) made present = put_of made
  choose nodes (op.InsertIfAbsent key stored) made present =
      cond (is_some present) choice.Keep (put_of made)
  choose nodes (op.RemoveIf key stamp) made present =
      cond (is_some (taken_by stamp (pair_at nodes present))) choice.Remove choice.Keep

  -- the node whose pair the operation answers, if it ends by this access
  abbrev pub found_by : KeyOp K V → (own : ℕ → Bool) → Memory → Access → Option ℕ
  found_by o own m (access.LoadWord array index) =
      cond (is_look o) (found_at own (word_at (m.words array) index)) None
  found_by o own m (access.Exchange array index from to) = found_before from to
  found_by o own m a = None

  -- a change is what the operation chose
  abbrev pub Puts : List (Node K V) → KeyOp K V → (made : Option ℕ) → Point → Type 0
  Puts nodes o made (call.Change array size passed from to) =
      put_by (choose nodes o made (stored_in from)) from ≡ Some to
  Puts nodes o made p = Unit {0}

  -- a call for this operation goes on; `node` has the pair to be stored, once it was named
  pub record Runs (eq : K → K → Bool) (hash : K → ℕ) (m : Memory) (nodes : List (Node K V))
      (o : KeyOp K V) (node : Option ℕ) (c : Call) :
      Type 0 where
    pub kind : c.kind ≡ kind_of o
    pub hashed : c.hash ≡ hash (key_of o)
    pub fits : FitsAll eq hash (key_in nodes) (Some (key_of o)) m c
    pub rests : Rests c.point
    pub walks : IsNoWalk c.point
    pub puts : Puts nodes o node c.point
    pub filled : (n : ℕ) → node ≡ Some n → IsSome (stored_by o) × (pair_at nodes (Some n) ≡ stored_by o)

  abbrev pub RunsOn : (K → K → Bool) → (K → ℕ) → Memory → List (Node K V) → KeyOp K V →
      (node : Option ℕ) → Step → Type 0
  RunsOn eq hash m nodes o stored (Going c) = Runs eq hash m nodes o stored c
  RunsOn eq hash m nodes o stored (Decided e) = ⊥
