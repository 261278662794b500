-- Weights over plans: the sum of what the items weigh.
use Rattle.std.proofs.Common.{◌≡◌, ℕ, ◌+◌, List, [], ◌∷◌, Option, Some, None, refl, arith}
use Rattle.moka_hist.specs.State.{Call}
use Rattle.moka_hist.specs.Plan.{Item, Removal}
use Rattle.moka_hist.specs.Plan as plan
use Rattle.moka_hist.specs.Next.{goes}
use Rattle.moka_hist.specs.Writing.{said}
use Rattle.moka_hist.specs.declared.visits.Settled.TheVariants as settled
use Rattle.moka_hist.specs.declared.replies.Answer.{Answer}

module _ {K V E : Type 0} where
  -- the sum of what the plan's items weigh
  abbrev pub weigh : (Item K V E → ℕ) → List (Item K V E) → ℕ
  weigh f [] = 0
  weigh f (item ∷ rest) = f item + weigh f rest

  -- what is weighed of a call that may have ended
  abbrev pub weigh_call : (Item K V E → ℕ) → Option (Call K V E) → ℕ
  weigh_call f None = 0
  weigh_call f (Some c) = weigh f c.plan

  -- a call that goes on with the rest weighs what the rest does, if answers weigh nothing
  pub weigh_goes : (f : Item K V E → ℕ) (c : Call K V E) (rest : List (Item K V E)) →
      ((a : Answer K V E) → f (plan.Reply a) ≡ 0) →
      weigh_call f (goes c rest).left ≡ weigh f rest
  weigh_goes f c (plan.Reply a ∷ []) h = let e = h a in omega arith
  weigh_goes f c _ h = refl

  -- what is left of a removal weighs nothing, if answers and ends don't
  pub weigh_said : (f : Item K V E → ℕ) (removal : Removal K) (a : Answer K V E) →
      f (plan.Reply a) ≡ 0 → f (plan.Settle settled.Nothing) ≡ 0 → weigh f (said removal a) ≡ 0
  weigh_said f (plan.To_remove_as_told key) a h k = omega (arith, h, k)
  weigh_said f _ a h k = omega (arith, h)
