-- One step of an operation, with the node that is made for it.
use Rattle.std.proofs.Common.{◌≡◌, ◌⊎◌, ℕ, ◌+◌, ◌-◌, Bool, true, false, cond, is_some, List, [], ◌∷◌, ◌++◌, length, Option, Some, None, Result, Ok, Err, IfOk, OnErr, IsErr, inl, inr, refl, sym, ap, subst, ◌∙◌}
use Rattle.std.proofs.lemmas.Bool.{false≢true}
use Rattle.std.specs.Cmp.{IsEquivalence}
use Rattle.std.specs.List.{slice_get}
use Rattle.std.specs.declared.alloc.AllocError.{AllocError}
use Rattle.moka_hist.specs.Finite.{put_key}
use Rattle.moka_hist.specs.Tables.{answer_of, taken_by}
use Rattle.moka_hist.specs.declared.records.Stored.{Stored}
use Rattle.moka_buckets.specs.KeyOps.{MovesKey, key_of}
use Rattle.moka_buckets.specs.declared.key_op.KeyOp.{KeyOp}
use Rattle.moka_buckets.specs.declared.key_op.KeyOp.TheVariants as op
use Rattle.moka_hist.specs.declared.tables.TableTurn.{TableTurn}
use Rattle.moka_hist.specs.declared.tables.TableTurn.TheVariants as turn
use Rattle.moka_words.specs.Effect.{Memory}
use Rattle.moka_growth.proofs.Shortness.{short_grows}
use Rattle.moka_table.specs.Map.{Pairs, SameMap}
use Rattle.moka_buckets.specs.declared.node.Node.{Node}
use Rattle.moka_buckets.specs.declared.bucket_call.BucketCall.{BucketCall}
use Rattle.moka_buckets.specs.Nodes.{key_in, Agrees}
use Rattle.moka_buckets.specs.Tables.{map_of, stored_by, IsWell, RunsOn}
use Rattle.moka_buckets.specs.Putting.{node_by, Stays}
use Rattle.moka_buckets.specs.Steps.{FitsCall, Turned, CanBegin, Done}
use Rattle.moka_pairs.proofs.Names.{agrees_through}
use Rattle.moka_pairs.proofs.Steps.{later_same}
use Rattle.moka_buckets.proofs.Known.{keys_grow}
use Rattle.moka_buckets.proofs.Placed.{get-front}
use Rattle.moka_buckets.proofs.Growing.{made_from, well_more, runs_more, map_more, runs_named, stored_key}

stays : {K V : Type 0} {a b c d : Pairs K V} (test : Bool) (q : K) → ((r : K) → a r ≡ c r) → ((r : K) → b r ≡ d r) → cond test a b q ≡ cond test c d q
stays true q e f = e q
stays false q e f = f q

-- moves from a map are moves from the same map
moves_same : {K V : Type 0} (eq : K → K → Bool) (o : KeyOp K V) (g f : Pairs K V) (keys : ℕ) (t : TableTurn K V) (new : Pairs K V) (count : ℕ) →
    ((q : K) → g q ≡ f q) → MovesKey eq o g keys t new count → MovesKey eq o f keys t new count
moves_same eq o g f keys turn.Going new count same moves = (λ q. moves.0 q ∙ same q, moves.1)
moves_same eq (op.Get key) g f keys (turn.Decided answer) new count same moves =
    (moves.0 ∙ ap answer_of (same key), λ q. moves.1 q ∙ same q, moves.2)
moves_same eq (op.InsertOrModify key stored) g f keys (turn.Decided answer) new count same moves = (
  moves.0 ∙ ap answer_of (same key),
  λ q. moves.1 q ∙ ap (λ o. cond (eq key q) (Some (key, stored)) o) (same q),
  moves.2 ∙ ap (λ o. cond (is_some o) keys (keys + 1)) (same key),
)
moves_same eq (op.InsertIfAbsent key stored) g f keys (turn.Decided answer) new count same moves = (
  moves.0 ∙ ap answer_of (same key),
  λ q. moves.1 q ∙ (ap (λ b. cond (is_some b) g (put_key eq g key (Some (key, stored))) q) (same key)
      ∙ stays (is_some (f key)) q (λ r. same r) (λ r. ap (λ o. cond (eq key r) (Some (key, stored)) o) (same r))),
  moves.2 ∙ ap (λ o. cond (is_some o) keys (keys + 1)) (same key),
)
moves_same eq (op.RemoveIf key stamp) g f keys (turn.Decided answer) new count same moves = (
  moves.0 ∙ ap (λ o. answer_of (taken_by stamp o)) (same key),
  λ q. moves.1 q ∙ (ap (λ b. cond (is_some (taken_by stamp b)) (put_key eq g key None) g q) (same key)
      ∙ stays (is_some (taken_by stamp (f key))) q (λ r. ap (λ o. cond (eq key r) None o) (same r)) (λ r. same r)),
  moves.2 ∙ ap (λ o. cond (is_some (taken_by stamp o)) (keys - 1) keys) (same key),
)

-- The nodes stayed, and the one that the call has; or the call had none, and one of its pair was added.
abbrev pub Grown : {K V : Type 0} → (nodes more : List (Node K V)) → BucketCall K V → (made : Option ℕ) → Type 0
Grown {K} {V} nodes more before made = ((more ≡ nodes) × (made ≡ before.node))
    ⊎ ((x : Node K V) × (before.node ≡ None) × (node_by before ≡ Some x) × (more ≡ nodes ++ x ∷ []) × (made ≡ Some (length nodes)))

module _ {K V : Type 0} (eq : K → K → Bool) (laws : IsEquivalence eq) (hash : K → ℕ) (first peak : ℕ) (old : Memory) (nodes more : List (Node K V))
    (before : BucketCall K V) (made : Option ℕ) (can : CanBegin eq hash old nodes first peak before) (grown : Grown nodes more before made) where
  -- what the node that was made leaves
  pub record Kept : Type 0 where
    pub well : IsWell eq hash old more first peak
    pub runs : RunsOn eq hash old more before.operation made before.table
    pub others : (other : BucketCall K V) → FitsCall eq hash old nodes other → FitsCall eq hash old more other
    pub map : SameMap (map_of eq old nodes) (map_of eq old more)
    pub grows : (n : ℕ) (node : Node K V) → slice_get nodes n ≡ Some node → slice_get more n ≡ Some node

  moved : (n : Option ℕ) (xs : List (Node K V)) → RunsOn eq hash old xs before.operation n before.table → made ≡ n → more ≡ xs →
      RunsOn eq hash old more before.operation made before.table
  moved n xs runs named is = subst (λ k. RunsOn eq hash old more before.operation k before.table) (sym named)
      (subst (λ ys. RunsOn eq hash old ys before.operation n before.table) (sym is) runs)

  pub kept : Kept
  kept = by grown
    where
      by : Grown nodes more before made → Kept
      by (inl e) = record {
        well = subst (λ xs. IsWell eq hash old xs first peak) (sym e.0) can.well;
        runs = moved before.node nodes can.fits.runs e.1 e.0;
        others = λ other f. subst (λ xs. FitsCall eq hash old xs other) (sym e.0) f;
        map = λ q. ap (λ xs. map_of eq old xs q) e.0;
        grows = λ n node at. ap (λ xs. slice_get xs n) e.0 ∙ at;
      }
      by (inr (x, none, is, more_is, named)) = record {
        well = subst (λ xs. IsWell eq hash old xs first peak) (sym more_is) (well_more eq laws hash can.respects nodes x old first peak hashed can.well);
        runs = moved (Some (length nodes)) (nodes ++ x ∷ [])
            (runs_named eq hash old nodes x before.operation before.table stored (subst (λ k. RunsOn eq hash old nodes before.operation k before.table) none can.fits.runs)) named more_is;
        others = λ other f. subst (λ xs. FitsCall eq hash old xs other) (sym more_is) (record {
          hashed = f.hashed;
          runs = runs_more eq laws hash can.respects nodes x old other.operation other.node other.table f.runs;
        });
        map = λ q. ap (λ xs. map_of eq old xs q) more_is ∙ map_more eq laws hash can.respects nodes x old first peak hashed can.well q;
        grows = λ n node at. ap (λ xs. slice_get xs n) more_is ∙ get-front nodes (x ∷ []) n node at;
      }
        where
          from : (key : K) × (st : Stored V) × (stored_by before.operation ≡ Some (key, st)) × (record { key = key; stored = st; hash = before.hash } ≡ x)
          from = made_from before.operation before.hash x is

          stored : stored_by before.operation ≡ Some (x.key, x.stored)
          stored = subst (λ y. stored_by before.operation ≡ Some (y.key, y.stored)) from.3 from.2

          hashed : x.hash ≡ hash x.key
          hashed = subst (λ y. y.hash ≡ hash y.key) from.3 (can.fits.hashed ∙ ap hash (sym (stored_key before.operation from.0 from.1 from.2)))

  -- keys of the nodes that there are now are keys of those before
  pub agrees_before : (keys : ℕ → Option K) → Agrees keys more → Agrees keys nodes
  agrees_before keys agrees = agrees_through keys (key_in more) (key_in nodes) agrees (keys_grow nodes more kept.grows)

  -- what the operation moves from a map it moves from the same map
  moves_from : (t : TableTurn K V) (new : Memory) → MovesKey eq before.operation (map_of eq old more) old.len t (map_of eq new more) new.len →
      MovesKey eq before.operation (map_of eq old nodes) old.len t (map_of eq new more) new.len
  moves_from t new moves = moves_same eq before.operation (map_of eq old more) (map_of eq old nodes) old.len t (map_of eq new more) new.len kept.map moves

  pub done : (new : Memory) (after : BucketCall K V) (t : TableTurn K V) → after.operation ≡ before.operation → after.hash ≡ before.hash → after.node ≡ made →
      Turned eq hash more first peak before.operation made old before.table t new after.table → Stays nodes more before after →
      Done eq hash first peak old nodes before (Ok t) new more after
  done new after t same_operation same_hash same_node turned stayed = record {
    well = turned.well;
    operation = same_operation;
    moves = moves_from t new turned.moves;
    going = λ e. let goes = turned.going e in (
      record {
        hashed = same_hash ∙ (can.fits.hashed ∙ ap (λ o. hash (key_of o)) (sym same_operation));
        runs = subst (λ o. RunsOn eq hash new more o after.node after.table) (sym same_operation)
            (subst (λ n. RunsOn eq hash new more before.operation n after.table) (sym same_node) goes.0);
      },
      goes.1,
    );
    others = λ other f. let g = kept.others other f in record {
      hashed = g.hashed;
      runs = turned.others other.operation other.node other.table g.runs;
    };
    later = turned.later;
    grows = kept.grows;
    stays = stayed;
    err = tt;
  }

-- without a node nothing has changed
pub undone : {K V : Type 0} (eq : K → K → Bool) (laws : IsEquivalence eq) (hash : K → ℕ) (first peak : ℕ) (old : Memory) (nodes more : List (Node K V))
    (before after : BucketCall K V) (gives : Result (TableTurn K V) AllocError) → IsErr gives → CanBegin eq hash old nodes first peak before →
    more ≡ nodes → after ≡ before → Done eq hash first peak old nodes before gives old more after
undone eq laws hash first peak old nodes more before after (Ok t) is can same call_same = absurd (false≢true is)
undone eq laws hash first peak old nodes more before after (Err e) is can same call_same = record {
  well = λ most longer few. subst (λ xs. IsWell eq hash old xs first most) (sym same) (record {
    sound = can.well.sound;
    hashed = can.well.hashed;
    counted = can.well.counted;
    short = short_grows old first peak most can.well.short longer;
  });
  operation = ap (λ b. b.operation) call_same;
  moves = tt;
  going = tt;
  others = λ other f. subst (λ xs. FitsCall eq hash old xs other) (sym same) f;
  later = later_same eq laws hash can.respects (key_in more) old;
  grows = λ n node at. ap (λ xs. slice_get xs n) same ∙ at;
  stays = inl (same, ap (λ b. b.node) call_same);
  err = (
    refl,
    λ q. ap (λ xs. map_of eq old xs q) same,
    ap (λ b. b.table) call_same,
    subst (λ xs. FitsCall eq hash old xs after) (sym same) (subst (λ b. FitsCall eq hash old nodes b) (sym call_same) can.fits),
  );
}

-- What holds of a step that had memory, and of one that had none, holds of both.
pub done_or : {K V : Type 0} (eq : K → K → Bool) (laws : IsEquivalence eq) (hash : K → ℕ) (first peak : ℕ) (old new : Memory) (nodes more : List (Node K V))
    (before after : BucketCall K V) (gives : Result (TableTurn K V) AllocError) → CanBegin eq hash old nodes first peak before →
    IfOk gives (λ t. Done eq hash first peak old nodes before (Ok t) new more after) → OnErr gives ((new ≡ old) × (more ≡ nodes) × (after ≡ before)) →
    Done eq hash first peak old nodes before gives new more after
done_or eq laws hash first peak old new nodes more before after (Ok t) can ok err = ok
done_or eq laws hash first peak old new nodes more before after (Err e) can ok err =
    subst (λ m. Done eq hash first peak old nodes before (Err e) m more after) (sym err.0)
    (undone eq laws hash first peak old nodes more before after (Err e) refl can err.1 err.2)
