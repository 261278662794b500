-- One step of a call that lists keys, by the call that makes it.
use Rattle.std.proofs.Common.{◌≡◌, ℕ, Bool, true, List, Option, sym, subst}
use Rattle.std.specs.Cmp.{IsEquivalence}
use Rattle.moka_words.specs.declared.accesses.Access.{Access}
use Rattle.moka_words.specs.declared.accesses.Seen.{Seen}
use Rattle.moka_words.specs.Effect.{Effect}
use Rattle.moka_growth.specs.Calls.{Step, Going, Decided, access_of}
use Rattle.moka_growth.specs.Counts.{Recounts}
use Rattle.moka_calls.specs.Standing.{Awaits, IsGoing, Wants, after}
use Rattle.moka_calls.proofs.Lengths.{seen_is_taken}
use Rattle.moka_buckets.specs.declared.array.Arrays.{Arrays}
use Rattle.moka_buckets.specs.declared.node.Node.{Node}
use Rattle.moka_pairs.specs.Keys.{hash_by, same_by, mine_by}
use Rattle.moka_buckets.specs.Nodes.{key_in, Agrees}
use Rattle.moka_buckets.specs.Arrays.{memory_of}
use Rattle.moka_buckets.specs.Making.{CanMake}
use Rattle.moka_buckets.specs.Tables.{IsWell}
use Rattle.moka_buckets.specs.Walks.{owns_none, WalksOn, Lead}
use Rattle.moka_pairs.proofs.Names.{agrees_now}
use Rattle.moka_buckets.proofs.Possible.{are_short, can_rest}
use Rattle.moka_buckets.proofs.Led.{led, sound_led}

module _ {K V : Type 0} (eq : K → K → Bool) (laws : IsEquivalence eq) (hash : K → ℕ) (respects : (x y : K) → eq x y ≡ true → hash x ≡ hash y)
    (nodes : List (Node K V)) (first peak : ℕ) (s : Arrays) (well : IsWell eq hash (memory_of s) nodes first peak) where
  pub can_walk : (step : Step) (a : Access) → IsGoing step → WalksOn eq hash (memory_of s) nodes step → Wants step a → CanMake (memory_of s) nodes a
  can_walk (Decided e) a going walks wants = absurd going
  can_walk (Going c) a going walks wants = subst (λ x. CanMake (memory_of s) nodes x) (sym wants)
      (can_rest eq hash nodes s (well.sound (key_in nodes) (agrees_now (key_in nodes))) well.counted owns_none c.hash c.point walks.seeks
      (walks.fits (key_in nodes) (agrees_now (key_in nodes))))

  module _ (t : Arrays) (saw : Seen) where
    abbrev Saw : Access → Type 0
    Saw a = (keys : ℕ → Option K) → Agrees keys nodes → Effect (hash_by hash keys) owns_none a saw (memory_of s) (memory_of t)

    pub walk_takes : (step : Step) (a : Access) → IsGoing step → WalksOn eq hash (memory_of s) nodes step → Wants step a → Saw a →
        Recounts a saw (memory_of s) (memory_of t) → Awaits step saw
    walk_takes (Decided e) a going walks wants effect counts = absurd going
    walk_takes (Going c) a going walks wants effect counts =
        let keys = key_in nodes in
        let now = agrees_now (key_in nodes) in
        let effect_c : Saw (access_of c) = subst Saw wants effect in
        let counts_c : Recounts (access_of c) saw (memory_of s) (memory_of t) = subst (λ x. Recounts x saw (memory_of s) (memory_of t)) wants counts in
        seen_is_taken (hash_by hash keys) (same_by eq keys) (mine_by keys) owns_none (access_of c) saw (memory_of s) (memory_of t)
        (well.sound keys now) (sound_led eq laws hash respects nodes first peak c saw (memory_of s) (memory_of t) well walks effect_c counts_c keys now)
        (are_short s) (are_short t) (effect_c keys now)

    pub step_led : (step : Step) (a : Access) → IsGoing step → WalksOn eq hash (memory_of s) nodes step → Wants step a → Saw a →
        Recounts a saw (memory_of s) (memory_of t) → (next : Step) → next ≡ after step saw →
        Lead eq hash nodes first peak (memory_of s) step (memory_of t) next
    step_led (Decided e) a going walks wants effect counts next is = absurd going
    step_led (Going c) a going walks wants effect counts next is =
        subst (λ x. Lead eq hash nodes first peak (memory_of s) (Going c) (memory_of t) x) (sym is)
        (led eq laws hash respects nodes first peak c saw (memory_of s) (memory_of t) well walks (subst Saw wants effect)
        (subst (λ x. Recounts x saw (memory_of s) (memory_of t)) wants counts))
