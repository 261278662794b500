-- Where an operation puts its pair: for which load its node is made, and what a step leaves of the nodes.
use Rattle.std.specs.Prelude.{◌≡◌, ◌⊎◌, ℕ, Bool, true, false, cond, List, [], ◌∷◌, ◌++◌, length, Option, Some, None, is_some, is_none, if◌then◌else◌}
use Rattle.std.specs.Option.{option_map, option_map_or}
use Rattle.moka_buckets.specs.declared.key_op.KeyOp.{KeyOp}
use Rattle.moka_buckets.specs.declared.key_op.KeyOp.TheVariants as op
use Rattle.moka_words.specs.declared.words.Word.{Word}
use Rattle.moka_words.specs.declared.words.Word.TheVariants.{Unset, Empty, Live, Tomb, SealedEmpty, SealedLive, SealedTomb}
use Rattle.moka_words.specs.declared.accesses.Access.TheVariants as access
use Rattle.moka_words.specs.declared.accesses.Seen.{Seen}
use Rattle.moka_words.specs.declared.accesses.Seen.TheVariants as seen
use Rattle.moka_growth.specs.Calls.{Step, Going, Decided, access_of}
use Rattle.moka_calls.specs.Standing.{is_probing}
use Rattle.moka_buckets.specs.declared.node.Node.{Node}
use Rattle.moka_buckets.specs.declared.bucket_call.BucketCall.{BucketCall}
use Rattle.moka_buckets.specs.Tables.{stored_by}

-- the node that a probe found under its key as it came to this word; None where the probe goes on
abbrev pub opened_by : Word → (same : Bool) → Option (Option ℕ)
opened_by Unset same = None
opened_by Empty same = Some None
opened_by (Live n) same = if same then Some (Some n) else None
opened_by (Tomb n) same = if same then Some None else None
opened_by SealedEmpty same = None
opened_by (SealedLive n) same = None
opened_by (SealedTomb n) same = None

abbrev pub opened : Seen → Option (Option ℕ)
opened (seen.Word word hash same) = opened_by word same
opened saw = None

-- the call makes next the exchange that puts this node
abbrev pub WillPut : Step → (node : ℕ) → Type 0
WillPut (Going c) n =
    (array index : ℕ) × (from : Word) × (access_of c ≡ access.Exchange array index from (Live n))
WillPut (Decided e) n = ⊥

module _ {K V : Type 0} where
  -- the operation puts its pair where this node is present under its key
  abbrev pub puts_at : KeyOp K V → (present : Option ℕ) → Bool
  puts_at (op.Get key) present = false
  puts_at (op.InsertOrModify key stored) present = true
  puts_at (op.InsertIfAbsent key stored) present = is_none present
  puts_at (op.RemoveIf key stamp) present = false

  -- the same of the node of which it asks, if it asks
  abbrev pub puts_if : KeyOp K V → (present : Option (Option ℕ)) → Bool
  puts_if o present = option_map_or (puts_at o) present false

  -- a node of the pair that the call stores
  abbrev pub node_by : BucketCall K V → Option (Node K V)
  node_by c = option_map (λ pair. record { key = pair.0; stored = pair.1; hash = c.hash })
      (stored_by c.operation)

  -- what the call saw leads it to put a node, and it has none
  abbrev pub lacks_node : BucketCall K V → Seen → Bool
  lacks_node c saw = cond (is_some c.node) false
      (cond (is_probing c.table) (puts_if c.operation (opened saw)) false)

  -- the node that is made then
  abbrev pub spare_of : BucketCall K V → Seen → Option (Node K V)
  spare_of c saw = cond (lacks_node c saw) (node_by c) None

  -- What a step leaves of the nodes: they are as they were, and the call has the node that it had. Or
  -- the call had none, and is told to put one: a node of its pair was added, which it keeps.
  abbrev pub Stays : (old new : List (Node K V)) → (before after : BucketCall K V) → Type 0
  Stays old new before after = ((new ≡ old) × (after.node ≡ before.node))
      ⊎ ((node : Node K V) × (before.node ≡ None) × (node_by before ≡ Some node)
      × (new ≡ old ++ node ∷ []) × (after.node ≡ Some (length old))
      × WillPut after.table (length old))
