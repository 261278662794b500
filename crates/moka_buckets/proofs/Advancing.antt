-- One step of an operation, by the call that makes it.
use Rattle.std.proofs.Common.{◌≡◌, ℕ, Bool, true, List, Option, Some, IsSome, sym, ap, subst, ◌∙◌}
use Rattle.std.specs.Cmp.{IsEquivalence}
use Rattle.moka_hist.specs.Tables.{answer_of}
use Rattle.moka_buckets.specs.KeyOps.{key_of}
use Rattle.moka_buckets.specs.declared.key_op.KeyOp.{KeyOp}
use Rattle.moka_hist.specs.declared.tables.TableAnswer.{TableAnswer}
use Rattle.moka_words.specs.declared.accesses.Access.{Access}
use Rattle.moka_words.specs.declared.accesses.Seen.{Seen}
use Rattle.moka_words.specs.Effect.{Effect}
use Rattle.moka_growth.specs.Calls.{Step, Going, Decided, access_of}
use Rattle.moka_growth.specs.Counts.{Recounts}
use Rattle.moka_calls.specs.Standing.{Awaits, Wants, after}
use Rattle.moka_calls.proofs.Lengths.{seen_is_taken}
use Rattle.moka_buckets.specs.declared.array.Arrays.{Arrays}
use Rattle.moka_buckets.specs.declared.node.Node.{Node}
use Rattle.moka_pairs.specs.Keys.{hash_by, same_by, mine_by, own_by}
use Rattle.moka_buckets.specs.Nodes.{key_in, pair_at, Agrees}
use Rattle.moka_buckets.specs.Arrays.{memory_of}
use Rattle.moka_buckets.specs.Making.{CanMake}
use Rattle.moka_buckets.specs.Tables.{choose, found_by, IsWell, RunsOn}
use Rattle.moka_buckets.specs.Putting.{puts_at}
use Rattle.moka_buckets.specs.Steps.{answered, asked, turn_by, Turned}
use Rattle.moka_pairs.proofs.Names.{agrees_now}
use Rattle.moka_pairs.proofs.Steps.{sound_after}
use Rattle.moka_buckets.proofs.Turns.{sees_of, turned}
use Rattle.moka_buckets.proofs.Possible.{are_short, can_make}

module _ {K V : Type 0} (eq : K → K → Bool) (laws : IsEquivalence eq) (hash : K → ℕ) (respects : (x y : K) → eq x y ≡ true → hash x ≡ hash y)
    (nodes : List (Node K V)) (first peak : ℕ) (o : KeyOp K V) (stored : Option ℕ) (s : Arrays)
    (well : IsWell eq hash (memory_of s) nodes first peak) where
  pub can_access : (step : Step) (a : Access) → RunsOn eq hash (memory_of s) nodes o stored step → Wants step a → CanMake (memory_of s) nodes a
  can_access (Decided e) a runs wants = absurd runs
  can_access (Going c) a runs wants = subst (λ x. CanMake (memory_of s) nodes x) (sym wants)
      (can_make eq hash nodes s (well.sound (key_in nodes) (agrees_now (key_in nodes))) well.counted o (own_by eq (key_in nodes) (key_of o)) c.hash stored c.point
      runs.rests runs.puts (runs.fits (key_in nodes) (agrees_now (key_in nodes))))

  module _ (t : Arrays) (saw : Seen) where
    abbrev Saw : Access → Type 0
    Saw a = (keys : ℕ → Option K) → Agrees keys nodes → Effect (hash_by hash keys) (own_by eq keys (key_of o)) a saw (memory_of s) (memory_of t)

    pub can_take : (step : Step) (a : Access) → RunsOn eq hash (memory_of s) nodes o stored step → Wants step a → Saw a →
        Recounts a saw (memory_of s) (memory_of t) → Awaits step saw
    can_take (Decided e) a runs wants effect counts = absurd runs
    can_take (Going c) a runs wants effect counts =
        let keys = key_in nodes in
        let now = agrees_now (key_in nodes) in
        let effect_c : Saw (access_of c) = subst Saw wants effect in
        let counts_c : Recounts (access_of c) saw (memory_of s) (memory_of t) = subst (λ x. Recounts x saw (memory_of s) (memory_of t)) wants counts in
        seen_is_taken (hash_by hash keys) (same_by eq keys) (mine_by keys) (own_by eq keys (key_of o)) (access_of c) saw (memory_of s) (memory_of t)
        (well.sound keys now)
        (sound_after eq laws hash respects (key_in nodes) (Some (key_of o)) c saw (memory_of s) (memory_of t) well.sound
        (sees_of eq laws hash respects nodes first peak o stored c saw (memory_of s) (memory_of t) well runs effect_c counts_c) keys now)
        (are_short s) (are_short t) (effect_c keys now)

    pub step_turned : (step : Step) (a : Access) → RunsOn eq hash (memory_of s) nodes o stored step → Wants step a → Saw a →
        Recounts a saw (memory_of s) (memory_of t) → ((present : Option ℕ) → asked (after step saw) ≡ Some present → puts_at o present ≡ true → IsSome stored) → (next : Step) → next ≡ answered (choose nodes o stored) (after step saw) →
        (answer : TableAnswer K V) → answer ≡ answer_of (pair_at nodes (found_by o (own_by eq (key_in nodes) (key_of o)) (memory_of s) a)) →
        Turned eq hash nodes first peak o stored (memory_of s) step (turn_by next answer) (memory_of t) next
    step_turned (Decided e) a runs wants effect counts named next is answer said = absurd runs
    step_turned (Going c) a runs wants effect counts named next is answer said =
        turned eq laws hash respects nodes first peak o stored c saw (memory_of s) (memory_of t) well runs named (subst Saw wants effect)
        (subst (λ x. Recounts x saw (memory_of s) (memory_of t)) wants counts) next is answer
        (said ∙ ap (λ x. answer_of (pair_at nodes (found_by o (own_by eq (key_in nodes) (key_of o)) (memory_of s) x))) wants)
