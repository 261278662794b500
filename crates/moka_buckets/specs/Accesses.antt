-- One access a step: what it leaves of its own segment, and of all segments.
use Rattle.std.specs.Prelude.{◌≡◌, ◌≢◌, ℕ, ◌≤◌, ◌++◌, Bool, List, length, Option, Some, None, Result, IfOk, OnErr}
use Rattle.std.specs.List.{slice_get}
use Rattle.std.specs.declared.alloc.AllocError.{AllocError}
use Rattle.moka_words.specs.declared.accesses.Access.{Access}
use Rattle.moka_words.specs.declared.accesses.Seen.{Seen}
use Rattle.moka_words.specs.Effect.{Memory, Effect}
use Rattle.moka_growth.specs.Calls.{Step, Going, Decided, access_of}
use Rattle.moka_growth.specs.Counts.{Recounts}
use Rattle.moka_buckets.specs.declared.node.Node.{Node}
use Rattle.moka_buckets.specs.declared.part.Part.{Part}
use Rattle.moka_pairs.specs.Keys.{hash_by, own_for}
use Rattle.moka_buckets.specs.Nodes.{Agrees}
use Rattle.moka_buckets.specs.declared.bucket_call.BucketCall.{BucketCall}
use Rattle.moka_buckets.specs.Parts.{memory_at, peak_at}
use Rattle.moka_buckets.specs.Putting.{Stays}

-- the access that a call makes next, if it goes on
abbrev pub wanted_by : Step → Option Access
wanted_by (Going c) = Some (access_of c)
wanted_by (Decided e) = None

module _ {K V : Type 0} where
  -- The wanted access, and no other, moved the memory; a call with this key, or with none, saw the nodes.
  pub record Accesses (eq : K → K → Bool) (hash : K → ℕ) (key : Option K) (wanted : Option Access)
      (nodes : List (Node K V)) (old new : Memory) : Type 0 where
    pub access : Access
    pub is : wanted ≡ Some access
    pub saw : Seen
    pub effect : (keys : ℕ → Option K) → Agrees keys nodes →
        Effect (hash_by hash keys) (own_for eq keys key) access saw old new
    pub counts : Recounts access saw old new

  -- the nodes stayed, or one was added to them
  pub record GrowsByOne (old new : List (Node K V)) : Type 0 where
    pub more : List (Node K V)
    pub added : new ≡ old ++ more
    pub one : length more ≤ 1

  -- a segment with as much in it as before
  pub record IsAsBefore (old new : Part K V) : Type 0 where
    pub memory : memory_at new ≡ memory_at old
    pub nodes : new.nodes.items ≡ old.nodes.items
    pub peak : peak_at new ≡ peak_at old

  -- What one step does to its own segment: it makes the access that the call wanted, or without memory none.
  pub record StepsOnce {A : Type 0} (eq : K → K → Bool) (hash : K → ℕ) (key : Option K)
      (wanted : Option Access) (gives : Result A AllocError) (old new : Part K V) : Type 0 where
    pub accesses : IfOk gives
        (λ a. Accesses eq hash key wanted new.nodes.items (memory_at old) (memory_at new))
    pub grows : GrowsByOne old.nodes.items new.nodes.items
    pub err : OnErr gives (IsAsBefore old new)

  -- And to all segments: the others are as they were.
  pub record MovesOnce {A : Type 0} (eq : K → K → Bool) (hash : K → ℕ) (key : Option K)
      (wanted : Option Access) (segment : ℕ) (gives : Result A AllocError)
      (old new : List (Part K V)) : Type 0 where
    pub others : (i : ℕ) → i ≢ segment → slice_get new i ≡ slice_get old i
    pub own : (p : Part K V) → slice_get old segment ≡ Some p →
        (q : Part K V) × (slice_get new segment ≡ Some q) × StepsOnce eq hash key wanted gives p q

  -- in its own segment a step leaves the nodes so
  abbrev pub StaysThere : (segment : ℕ) → (old new : List (Part K V)) →
      (before after : BucketCall K V) → Type 0
  StaysThere segment old new before after = (p : Part K V) → slice_get old segment ≡ Some p →
      (q : Part K V) × (slice_get new segment ≡ Some q)
      × Stays p.nodes.items q.nodes.items before after
