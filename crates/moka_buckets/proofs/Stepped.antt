-- One step of an operation: its access, the node that it may make, and its answer.
use Rattle.std.proofs.Common.{◌≡◌, ℕ, Bool, true, cond, List, length, Option, Some, None, IsSome, Ok, inl, inr, refl, sym, ap, subst, ◌∙◌}
use Rattle.std.specs.Cmp.{IsEquivalence}
use Rattle.moka_hist.specs.Tables.{answer_of}
use Rattle.moka_hist.specs.declared.tables.TableAnswer.{TableAnswer}
use Rattle.moka_words.specs.declared.accesses.Access.{Access}
use Rattle.moka_words.specs.declared.accesses.Seen.{Seen}
use Rattle.moka_words.specs.Effect.{Effect}
use Rattle.moka_growth.specs.Calls.{Step, Going, Decided, access_of}
use Rattle.moka_growth.specs.Counts.{Recounts}
use Rattle.moka_calls.specs.Standing.{Awaits, MayWant, Wants, WantsMemory, after, is_probing}
use Rattle.moka_buckets.specs.KeyOps.{key_of}
use Rattle.moka_buckets.specs.declared.array.Arrays.{Arrays}
use Rattle.moka_buckets.specs.declared.node.Node.{Node}
use Rattle.moka_buckets.specs.declared.bucket_call.BucketCall.{BucketCall}
use Rattle.moka_pairs.specs.Keys.{hash_by, own_by}
use Rattle.moka_buckets.specs.Nodes.{key_in, pair_at, Agrees}
use Rattle.moka_buckets.specs.Arrays.{memory_of}
use Rattle.moka_buckets.specs.Making.{CanMake}
use Rattle.moka_buckets.specs.Tables.{choose, found_by, RunsOn}
use Rattle.moka_buckets.specs.Putting.{WillPut, opened, puts_at, puts_if, spare_of, Stays}
use Rattle.moka_buckets.specs.Accesses.{Accesses, wanted_by}
use Rattle.moka_buckets.specs.Steps.{Places, answered, asked, turn_by, CanBegin, Done, Turned}
use Rattle.moka_pairs.proofs.Names.{agrees_now}
use Rattle.moka_buckets.proofs.Advancing.{can_access, can_take, step_turned}
use Rattle.moka_buckets.proofs.Doing.{Grown, Kept, agrees_before, done, kept}
use Rattle.moka_buckets.proofs.Once.{wanted_is}
use Rattle.moka_buckets.proofs.Spared.{asks_lacks, asks_open, is_named, spare_made, will_put}

pub wants_may : (step : Step) (a : Access) (saw : Seen) → Wants step a → WantsMemory step saw → MayWant a saw
wants_may (Decided e) a saw wants may = absurd wants
wants_may (Going c) a saw wants may = subst (λ x. MayWant x saw) (sym wants) may

-- a step that goes on gives no answer
same_turn : {K V : Type 0} (s : Step) (n : ℕ) → WillPut s n → (x y : TableAnswer K V) → turn_by s x ≡ turn_by s y
same_turn (Going c) n puts x y = refl
same_turn (Decided e) n puts x y = absurd puts

module _ {K V : Type 0} (eq : K → K → Bool) (laws : IsEquivalence eq) (hash : K → ℕ) (first peak : ℕ) (s : Arrays) (nodes : List (Node K V))
    (before : BucketCall K V) (can : CanBegin eq hash (memory_of s) nodes first peak before) (a : Access) (wants : Wants before.table a) where
  pub can_make_it : CanMake (memory_of s) nodes a
  can_make_it = can_access eq laws hash can.respects nodes first peak before.operation before.node s can.well before.table a can.fits.runs wants

  module _ (t : Arrays) (saw : Seen)
      (effect : (keys : ℕ → Option K) → Agrees keys nodes → Effect (hash_by hash keys) (own_by eq keys (key_of before.operation)) a saw (memory_of s) (memory_of t))
      (counts : Recounts a saw (memory_of s) (memory_of t)) where
    pub awaits : Awaits before.table saw
    awaits = can_take eq laws hash can.respects nodes first peak before.operation before.node s can.well t saw before.table a can.fits.runs wants effect counts

    -- a call that asks has loaded the word that says so
    opens : (step : Step) → RunsOn eq hash (memory_of s) nodes before.operation before.node step → Wants step a → (found : Option ℕ) →
        asked (after step saw) ≡ Some found → cond (is_probing step) (opened saw) None ≡ Some found
    opens (Decided e) runs want found asks = absurd runs
    opens (Going c) runs want found asks =
        let keys = key_in nodes in
        let seen : Effect (hash_by hash keys) (own_by eq keys (key_of before.operation)) (access_of c) saw (memory_of s) (memory_of t) =
        subst (λ x. Effect (hash_by hash keys) (own_by eq keys (key_of before.operation)) x saw (memory_of s) (memory_of t)) want (effect keys (agrees_now (key_in nodes))) in
        asks_open (hash_by hash keys) (own_by eq keys (key_of before.operation)) (memory_of s) (memory_of t) c saw runs.rests runs.walks seen found asks

    module _ (more : List (Node K V)) (spare : Option (Node K V)) (spare_is : spare ≡ spare_of before saw) (table : Step) (table_is : table ≡ after before.table saw)
        (placed last : BucketCall K V) (places : Places nodes more (record before { table = table }) spare placed)
        (same_operation : last.operation ≡ placed.operation) (same_hash : last.hash ≡ placed.hash) (same_node : last.node ≡ placed.node)
        (answers : last.table ≡ answered (choose more placed.operation placed.node) placed.table) where
      grown : Grown nodes more before placed.node
      grown = by places
        where
          by : Places nodes more (record before { table = table }) spare placed → Grown nodes more before placed.node
          by (inl (same, call, why)) = inl (same, ap (λ b. b.node) call)
          by (inr (x, have, puts, more_is, call)) = let m = spare_made before saw x (sym spare_is ∙ have) in inr (x, m.0, m.1, more_is, ap (λ b. b.node) call)

      -- but for its node the call is as it was taken on
      as_taken : {A : Type 0} (f : BucketCall K V → A) → ((b : BucketCall K V) (n : Option ℕ) → f (record b { node = n }) ≡ f b) →
          f placed ≡ f (record before { table = table })
      as_taken f blind = by places
        where
          by : Places nodes more (record before { table = table }) spare placed → f placed ≡ f (record before { table = table })
          by (inl (same, call, why)) = ap f call
          by (inr (x, have, puts, more_is, call)) = ap f call ∙ blind (record before { table = table }) (Some (length nodes))

      operation_is : placed.operation ≡ before.operation
      operation_is = as_taken (λ b. b.operation) (λ b n. refl)

      hash_is : placed.hash ≡ before.hash
      hash_is = as_taken (λ b. b.hash) (λ b n. refl)

      taken_is : placed.table ≡ after before.table saw
      taken_is = as_taken (λ b. b.table) (λ b n. refl) ∙ table_is

      next_is : last.table ≡ answered (choose more before.operation placed.node) (after before.table saw)
      next_is = answers ∙ (ap (λ o. answered (choose more o placed.node) placed.table) operation_is
          ∙ ap (λ x. answered (choose more before.operation placed.node) x) taken_is)

      puts_next : puts_if before.operation (asked table) ≡ true → placed.node ≡ Some (length nodes) → WillPut last.table (length nodes)
      puts_next puts named = subst (λ x. WillPut x (length nodes))
          (sym (next_is ∙ ap (λ k. answered (choose more before.operation k) (after before.table saw)) named))
          (will_put more before.operation (length nodes) (after before.table saw) (subst (λ x. puts_if before.operation (asked x) ≡ true) table_is puts))

      stays : Stays nodes more before last
      stays = by places
        where
          by : Places nodes more (record before { table = table }) spare placed → Stays nodes more before last
          by (inl (same, call, why)) = inl (same, same_node ∙ ap (λ b. b.node) call)
          by (inr (x, have, puts, more_is, call)) =
              let m = spare_made before saw x (sym spare_is ∙ have) in
              let named : placed.node ≡ Some (length nodes) = ap (λ b. b.node) call in
              inr (x, m.0, m.1, more_is, same_node ∙ named, puts_next puts named)

      named : (found : Option ℕ) → asked (after before.table saw) ≡ Some found → puts_at before.operation found ≡ true → IsSome placed.node
      named found asks puts = is_named nodes more before table saw spare placed spare_is places found (ap asked table_is ∙ asks)
          (λ none. asks_lacks before saw found none (opens before.table can.fits.runs wants found asks) puts) puts

      it_kept : Kept eq laws hash first peak (memory_of s) nodes more before placed.node can grown
      it_kept = kept eq laws hash first peak (memory_of s) nodes more before placed.node can grown

      effect_now : (keys : ℕ → Option K) → Agrees keys more → Effect (hash_by hash keys) (own_by eq keys (key_of before.operation)) a saw (memory_of s) (memory_of t)
      effect_now keys agrees = effect keys (agrees_before eq laws hash first peak (memory_of s) nodes more before placed.node can grown keys agrees)

      turned_with : (pair : TableAnswer K V) →
          pair ≡ answer_of (pair_at more (found_by before.operation (own_by eq (key_in more) (key_of before.operation)) (memory_of s) a)) →
          Turned eq hash more first peak before.operation placed.node (memory_of s) before.table (turn_by last.table pair) (memory_of t) last.table
      turned_with pair is = step_turned eq laws hash can.respects more first peak before.operation placed.node s it_kept.well t saw before.table a it_kept.runs wants
          effect_now counts named last.table next_is pair is

      module _ (pair : TableAnswer K V)
          (pair_is : pair ≡ answer_of (pair_at nodes (found_by before.operation (own_by eq (key_in nodes) (key_of before.operation)) (memory_of s) a))) where
        turned_so : Turned eq hash more first peak before.operation placed.node (memory_of s) before.table (turn_by last.table pair) (memory_of t) last.table
        turned_so = by places
          where
            other : TableAnswer K V
            other = answer_of (pair_at more (found_by before.operation (own_by eq (key_in more) (key_of before.operation)) (memory_of s) a))

            by : Places nodes more (record before { table = table }) spare placed →
                Turned eq hash more first peak before.operation placed.node (memory_of s) before.table (turn_by last.table pair) (memory_of t) last.table
            by (inl (same, call, why)) = turned_with pair
                (subst (λ xs. pair ≡ answer_of (pair_at xs (found_by before.operation (own_by eq (key_in xs) (key_of before.operation)) (memory_of s) a))) (sym same) pair_is)
            by (inr (x, have, puts, more_is, call)) =
                subst (λ u. Turned eq hash more first peak before.operation placed.node (memory_of s) before.table u (memory_of t) last.table)
                (same_turn last.table (length nodes) (puts_next puts (ap (λ b. b.node) call)) other pair) (turned_with other refl)

        pub stepped : Done eq hash first peak (memory_of s) nodes before (Ok (turn_by last.table pair)) (memory_of t) more last
        stepped = done eq laws hash first peak (memory_of s) nodes more before placed.node can grown (memory_of t) last (turn_by last.table pair)
            (same_operation ∙ operation_is) (same_hash ∙ hash_is) same_node turned_so stays

      pub accessed : Accesses eq hash (Some (key_of before.operation)) (wanted_by before.table) more (memory_of s) (memory_of t)
      accessed = record {
        access = a;
        is = wanted_is before.table a wants;
        saw = saw;
        effect = effect_now;
        counts = counts;
      }
