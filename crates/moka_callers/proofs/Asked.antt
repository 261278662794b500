-- A call that has still to take an answer has changed nothing that is stored.
use Rattle.std.proofs.Common.{◌≡◌, ◌⊎◌, inl, inr, ℕ, ◌≤◌, ◌<◌, Bool, cond, List, [], ◌∷◌, ◌++◌, Some, sym, ap, subst, arith}
use Rattle.moka_hist.specs.Finite.{times}
use Rattle.moka_hist.specs.State.{State, World}
use Rattle.moka_hist.specs.Plan.{Item}
use Rattle.moka_hist.specs.Plan as plan
use Rattle.moka_hist.specs.Run.{IsReached}
use Rattle.moka_laws.specs.Given.{asked_key}
use Rattle.moka_laws.proofs.Balance.{times_last}
use Rattle.moka_laws.proofs.Balanced.{in_balance}
use Rattle.moka_laws.proofs.Counting.{none_some, same_number}
use Rattle.moka_laws.proofs.Kept.{IsStable, runs}
use Rattle.moka_laws.proofs.Nops.{nops_same}
use Rattle.moka_laws.proofs.Posts.{may_write}
use Rattle.moka_laws.proofs.Reached.{run_reached, step_reached}
use Rattle.moka_laws.proofs.Weights.{weigh}
use Rattle.moka_callers.specs.Changing.{ChangesBy}
use Rattle.moka_callers.specs.Computing.{AsksComeFirst, NopsLeaveAll}
use Rattle.moka_callers.proofs.Changed.{by_writes}
use Rattle.moka_callers.proofs.Parts.{CommitsBy, step_commits}

-- what stands in a list stands there once more is put at its end
more : (x y : ℕ) (xs : List ℕ) → 0 < times x xs → 0 < times x (xs ++ y ∷ [])
more x y xs h = omega (arith, h, times_last x y xs)

module _ {K V E : Type 0} where
  -- a call that has still to take an answer may still write
  asked_writes : (p : List (Item K V E)) (key : K) → asked_key p ≡ Some key →
      1 ≤ weigh may_write p
  asked_writes [] key e = absurd (none_some e)
  asked_writes (plan.Told load ∷ rest) key e = omega arith
  asked_writes (plan.Told_op compute pair ∷ rest) key e = omega arith
  asked_writes (item ∷ rest) key e = absurd (none_some e)

module _ {K V E : Type 0} (eq : K → K → Bool) where
  -- what a step commits, if it commits, or that it changes nothing stored
  commits_or_stays : (w new : World K V E) (n : ℕ) (p : List (Item K V E)) →
      CommitsBy eq w n p new → ChangesBy eq n p w.table.stored new.table.stored →
      (new.table.stored ≡ w.table.stored) ⊎ (new.table.committed ≡ w.table.committed ++ n ∷ [])
  commits_or_stays w new n [] commits changes = inl changes
  commits_or_stays w new n (plan.Write key value moment ∷ rest) (inl same) changes = inl same.1
  commits_or_stays w new n (plan.Write key value moment ∷ rest) (inr h) changes = inr h.0
  commits_or_stays w new n (plan.Out removal key ∷ rest) (inl same) changes = inl same.1
  commits_or_stays w new n (plan.Out removal key ∷ rest) (inr h) changes = inr h.1
  commits_or_stays w new n (item ∷ rest) commits changes = inl changes

  -- ---- a number that was committed stays so

  kept_by : (s t : State K V E) (m x : ℕ) (p : List (Item K V E)) →
      CommitsBy eq s.world m p t.world → 0 < times x s.world.table.committed →
      0 < times x t.world.table.committed
  kept_by s t m x [] same h = subst (λ xs. 0 < times x xs) (sym same) h
  kept_by s t m x (plan.Write key value moment ∷ rest) (inl same) h =
      subst (λ xs. 0 < times x xs) (sym same.0) h
  kept_by s t m x (plan.Write key value moment ∷ rest) (inr new) h =
      subst (λ xs. 0 < times x xs) (sym new.0) (more x m s.world.table.committed h)
  kept_by s t m x (plan.Out removal key ∷ rest) (inl same) h =
      subst (λ xs. 0 < times x xs) (sym same.0) h
  kept_by s t m x (plan.Out removal key ∷ rest) (inr new) h =
      subst (λ xs. 0 < times x xs) (sym new.1) (more x m s.world.table.committed h)
  kept_by s t m x (item ∷ rest) same h = subst (λ xs. 0 < times x xs) (sym same) h

  commits_stable : (x : ℕ) →
      IsStable {K = K} {V = V} {E = E} eq (λ v. 0 < times x v.world.table.committed)
  commits_stable x = record {
    at = λ s moment i. i;
    start = λ s start i. i;
    step = λ s t n turn i step. kept_by s t n x step.call.plan (step_commits eq s t n turn step) i;
    tell = λ s n value asked i. i;
    hear = λ s n off running i. i;
    drop = λ s n c live between i. i;
  }

  -- ---- the laws

  pub asks_first : AsksComeFirst K V E eq
  asks_first u v s n c key turn reached step led live asked =
      by (commits_or_stays u.world v.world n step.call.plan (step_commits eq u v n turn step)
      (by_writes eq u v n step.call turn step.live step))
    where
      there : IsReached eq s
      there = run_reached eq v s led.events led.replies
          (step_reached eq u v n turn reached step) led.run

      one : v.world.table.committed ≡ u.world.table.committed ++ n ∷ [] →
          0 < times n v.world.table.committed
      one new = omega (
        arith,
        ap (times n) new,
        times_last n n u.world.table.committed,
        ap (λ b. cond {A = ℕ} b 1 0) (same_number n),
      )

      by : (v.world.table.stored ≡ u.world.table.stored) ⊎
          (v.world.table.committed ≡ u.world.table.committed ++ n ∷ []) →
          v.world.table.stored ≡ u.world.table.stored
      by (inl same) = same
      by (inr new) = absurd (omega (
        arith,
        (in_balance eq s there).unspent n c live,
        asked_writes c.plan key asked,
        runs eq (λ x. 0 < times n x.world.table.committed) (commits_stable n) v s led.events
            led.replies (one new) led.run,
      ))

  pub nops_leave : NopsLeaveAll K V E eq
  nops_leave s t n c compute pair given turn h live step takes leaves = record {
    before = λ u v r reached made led.
        asks_first u v s n c compute.key r reached made led live (ap asked_key takes.telling);
    now = subst (λ p. ChangesBy eq n p s.world.table.stored t.world.table.stored) takes.telling
        (by_writes eq s t n c turn live step);
    after = λ u v r led made. ap (λ x. x.stored)
        (nops_same eq s t u v n c compute pair given turn r h live step takes leaves led made).1;
  }
