-- An operation that begins fits the table, and has few steps left.
use Rattle.std.proofs.Common.{◌≡◌, ℕ, ◌^◌, ◌<◌, Bool, List, [], ◌∷◌, length, Option, None, Some, zero, suc, sym, subst, refl, ◌∙◌, arith}
use Rattle.std.specs.List.{slice_get}
use Rattle.moka_buckets.specs.KeyOps.{key_of}
use Rattle.moka_buckets.specs.declared.key_op.KeyOp.{KeyOp}
use Rattle.moka_words.specs.Effect.{Memory}
use Rattle.moka_growth.specs.declared.kinds.CallKind.{CallKind}
use Rattle.moka_growth.specs.Calls.{Step, Going, call_from}
use Rattle.moka_buckets.specs.declared.node.Node.{Node}
use Rattle.moka_buckets.specs.declared.part.Part.{Part}
use Rattle.moka_buckets.specs.declared.bucket_call.BucketCall.{BucketCall}
use Rattle.moka_buckets.specs.Tables.{kind_of, RunsOn}
use Rattle.moka_buckets.specs.Parts.{memory_at, segment_of, AreParts, FitsParts}
use Rattle.moka_buckets.proofs.Segmented.{segment_within}

pub some_at : {X : Type 0} (xs : List X) (i : ℕ) → i < length xs → (x : X) × (slice_get xs i ≡ Some x)
some_at [] i h = absurd (omega arith)
some_at (x ∷ xs) zero h = (x, refl)
some_at (x ∷ xs) (suc i) h = some_at xs i (omega arith)

no_node : {n : ℕ} → None ≡ Some n → ⊥
no_node e = cc

module _ {K V : Type 0} (eq : K → K → Bool) (hash : K → ℕ) where
  begun_runs : (m : Memory) (nodes : List (Node K V)) (o : KeyOp K V) (h : ℕ) (k : CallKind) (table : Step) (node : Option ℕ) → h ≡ hash (key_of o) → k ≡ kind_of o →
      table ≡ Going (call_from k h) → node ≡ None → RunsOn eq hash m nodes o node table
  begun_runs m nodes o h k table node hashed kind is none = subst (λ s. RunsOn eq hash m nodes o node s) (sym is) (record {
    kind = kind;
    hashed = hashed;
    fits = λ keys agrees. tt;
    rests = tt;
    walks = tt;
    puts = tt;
    filled = λ n e. absurd (no_node (sym none ∙ e));
  })

  pub begun_fits : (parts : List (Part K V)) (first most len : ℕ) → AreParts eq hash parts first most len → (k : CallKind) (c : BucketCall K V) → c.hash < 2 ^ 64 →
      c.hash ≡ hash (key_of c.operation) → k ≡ kind_of c.operation → c.table ≡ Going (call_from k c.hash) → c.node ≡ None → FitsParts eq hash parts c
  begun_fits parts first most len well k c small hashed kind is none =
      let at = some_at parts (segment_of (length parts) c.hash) (segment_within (length parts) c.hash well.some small) in
      record {
        part = at.0;
        there = at.1;
        fits = record {
          hashed = hashed;
          runs = begun_runs (memory_at at.0) at.0.nodes.items c.operation c.hash k c.table c.node hashed kind is none;
        };
      }
