-- What one step of an operation does to a table.
use Rattle.std.specs.Prelude.{◌≡◌, ◌⊎◌, ℕ, ◌<◌, ◌≤◌, Bool, true, false, List, [], ◌∷◌, ◌++◌, length, Option, Some, None, Result, IfOk, OnErr}
use Rattle.std.specs.List.{slice_get}
use Rattle.moka_buckets.specs.KeyOps.{MovesKey, key_of}
use Rattle.moka_buckets.specs.declared.key_op.KeyOp.{KeyOp}
use Rattle.moka_hist.specs.declared.tables.TableAnswer.{TableAnswer}
use Rattle.moka_hist.specs.declared.tables.TableTurn.{TableTurn}
use Rattle.moka_hist.specs.declared.tables.TableTurn.TheVariants as turn
use Rattle.moka_words.specs.declared.accesses.Choice.{Choice}
use Rattle.moka_words.specs.Words.{stored_in}
use Rattle.moka_words.specs.Effect.{Memory, LaterMemory}
use Rattle.moka_growth.specs.Calls.{Point, Call, Step, Going, Decided, chosen}
use Rattle.moka_growth.specs.Calls as call
use Rattle.std.specs.declared.alloc.AllocError.{AllocError}
use Rattle.moka_table.specs.Map.{SameMap}
use Rattle.moka_buckets.specs.declared.node.Node.{Node}
use Rattle.moka_buckets.specs.declared.bucket_call.BucketCall.{BucketCall}
use Rattle.moka_pairs.specs.Keys.{same_by}
use Rattle.moka_buckets.specs.Nodes.{Agrees}
use Rattle.moka_buckets.specs.Tables.{map_of, left_in, IsWell, RunsOn}
use Rattle.moka_buckets.specs.Putting.{puts_if, Stays}

-- The node that a call found under its key which asks what is to be done; None where it doesn't ask.
abbrev pub asked_at : Point → Option (Option ℕ)
asked_at (call.Choose array size passed found) = Some (stored_in found)
asked_at p = None

abbrev pub asked : Step → Option (Option ℕ)
asked (Going c) = asked_at c.point
asked (Decided e) = None

-- the call goes on with its answer, if it asks
abbrev pub answered_at : (answer : Option ℕ → Choice) → Call → Point → Step
answered_at answer c (call.Choose array size passed found) =
    chosen c array size passed found (answer (stored_in found))
answered_at answer c p = Going c

abbrev pub answered : (answer : Option ℕ → Choice) → Step → Step
answered answer (Going c) = answered_at answer c c.point
answered answer (Decided e) = Decided e

module _ {K V : Type 0} where
  -- what the step gives
  abbrev pub turn_by : Step → TableAnswer K V → TableTurn K V
  turn_by (Going c) answer = turn.Going
  turn_by (Decided e) answer = turn.Decided answer

  -- The spare node, if there is one, was added where the call asks and puts it.
  abbrev pub Places : (old new : List (Node K V)) → (before : BucketCall K V) →
      (spare : Option (Node K V)) → (after : BucketCall K V) → Type 0
  Places old new before spare after =
      ((new ≡ old) × (after ≡ before)
      × ((spare ≡ None) ⊎ (puts_if before.operation (asked before.table) ≡ false)))
      ⊎ ((node : Node K V) × (spare ≡ Some node)
      × (puts_if before.operation (asked before.table) ≡ true) × (new ≡ old ++ node ∷ [])
      × (after ≡ record before { node = Some (length old) }))

  -- each node that was made has this hash
  abbrev pub Adds : (hash : ℕ) → (old new : List (Node K V)) → Type 0
  Adds hash old new = (n : ℕ) (node : Node K V) → slice_get new n ≡ Some node →
      (slice_get old n ≡ Some node) ⊎ (node.hash ≡ hash)

  -- the call fits the table
  pub record FitsCall (eq : K → K → Bool) (hash : K → ℕ) (m : Memory) (nodes : List (Node K V))
      (c : BucketCall K V) : Type 0 where
    pub hashed : c.hash ≡ hash (key_of c.operation)
    pub runs : RunsOn eq hash m nodes c.operation c.node c.table

  -- The step stays undecided, or decides by the map; the table stays well, and all other calls fit.
  pub record Turned (eq : K → K → Bool) (hash : K → ℕ) (nodes : List (Node K V)) (first peak : ℕ)
      (o : KeyOp K V) (stored : Option ℕ)
      (old : Memory) (before : Step) (gives : TableTurn K V) (new : Memory) (after : Step) : Type 0 where
    pub well : (more : ℕ) → peak ≤ more → new.len ≤ more → IsWell eq hash new nodes first more
    pub moves : MovesKey eq o (map_of eq old nodes) old.len gives (map_of eq new nodes) new.len
    pub going : gives ≡ turn.Going → RunsOn eq hash new nodes o stored after ×
        (left_in first peak new after < left_in first peak old before)
    pub others : (p : KeyOp K V) (kept : Option ℕ) (other : Step) →
        RunsOn eq hash old nodes p kept other → RunsOn eq hash new nodes p kept other
    pub later : (keys : ℕ → Option K) → Agrees keys nodes → LaterMemory (same_by eq keys) old new

  -- what a step may rest on: hashes that equal keys share, and a table that is well
  pub record CanBegin (eq : K → K → Bool) (hash : K → ℕ) (m : Memory) (nodes : List (Node K V))
      (first peak : ℕ) (c : BucketCall K V) : Type 0 where
    pub respects : (x y : K) → eq x y ≡ true → hash x ≡ hash y
    pub well : IsWell eq hash m nodes first peak
    pub fits : FitsCall eq hash m nodes c

  -- What a step does, with a node that it may have made: it is undecided, or decides by the map, or
  -- without memory leaves all as it was. The
  -- table stays well, and all other calls fit.
  pub record Done (eq : K → K → Bool) (hash : K → ℕ) (first peak : ℕ) (old : Memory)
      (nodes : List (Node K V)) (before : BucketCall K V)
      (gives : Result (TableTurn K V) AllocError) (new : Memory) (more_nodes : List (Node K V))
      (after : BucketCall K V) : Type 0 where
    pub well : (more : ℕ) → peak ≤ more → new.len ≤ more → IsWell eq hash new more_nodes first more
    pub operation : after.operation ≡ before.operation
    pub moves : IfOk gives (λ t. MovesKey eq before.operation (map_of eq old nodes) old.len t
        (map_of eq new more_nodes) new.len)
    pub going : IfOk gives (λ t. t ≡ turn.Going
        → FitsCall eq hash new more_nodes after ×
        (left_in first peak new after.table < left_in first peak old before.table))
    pub others : (other : BucketCall K V) → FitsCall eq hash old nodes other →
        FitsCall eq hash new more_nodes other
    pub later : (keys : ℕ → Option K) → Agrees keys more_nodes → LaterMemory (same_by eq keys) old new
    pub grows : (n : ℕ) (node : Node K V) → slice_get nodes n ≡ Some node → slice_get more_nodes n ≡ Some node
    pub stays : Stays nodes more_nodes before after
    pub err : OnErr gives ((new ≡ old) × SameMap (map_of eq old nodes) (map_of eq new more_nodes) ×
        (after.table ≡ before.table)
        × FitsCall eq hash new more_nodes after)
