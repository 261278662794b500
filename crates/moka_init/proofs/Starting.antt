-- Where a fresh call stands, something is left to do, and nothing is needed twice.
use Rattle.std.proofs.Common.{◌≡◌, ℕ, zero, suc, Bool, true, false, List, [], ◌∷◌, refl}
use Rattle.moka_hist.specs.Plan.{Item, get_plan, insert_plan, is_disabled, iter_plan, load_plan, look, or_insert_plan, pending_plan, plan_of, seek, under_lock, walk_from}
use Rattle.moka_hist.specs.Plan as plan
use Rattle.moka_hist.specs.declared.events.Start.{Start}
use Rattle.moka_hist.specs.declared.events.Start.TheVariants as start
use Rattle.moka_hist.specs.declared.loads.Sought.{Sought}
use Rattle.moka_hist.specs.declared.rules.Rules.{Rules}
use Rattle.moka_init.specs.declared.points.Computing.TheVariants as computing
use Rattle.moka_init.specs.declared.points.Listening.TheVariants as listening
use Rattle.moka_init.specs.declared.points.Point.{Point}
use Rattle.moka_init.specs.declared.points.Point.TheVariants as point
use Rattle.moka_init.specs.FlowPlan.{is_over, IsCopied}
use Rattle.moka_init.specs.PointPlan.{plan_at}

module _ (K V E : Type 0) where
  -- something is left, and it is no ask of a compute and no notice
  abbrev is_first : List (Item K V E) → Bool
  is_first [] = false
  is_first (plan.Ask_op compute found ∷ rest) = false
  is_first (plan.Notice key old cause upsert ∷ rest) = false
  is_first (item ∷ rest) = true

  loads_first : (disabled : Bool) (sought : Sought K) → is_first (load_plan disabled sought) ≡ true
  loads_first true sought = refl
  loads_first false sought = refl

  walk_first : (parts : ℕ) → is_first (walk_from 0 parts) ≡ true
  walk_first zero = refl
  walk_first (suc parts) = refl

  first_plan : (parts : ℕ) (rules : Rules) (s : Start K V) → is_first (plan_of parts rules s) ≡ true
  first_plan parts rules (start.Get key) = by (is_disabled rules)
    where
      by : (disabled : Bool) → is_first (get_plan disabled key) ≡ true
      by true = refl
      by false = refl
  first_plan parts rules (start.Insert key value) = by (is_disabled rules)
    where
      by : (disabled : Bool) → is_first (insert_plan disabled rules key value) ≡ true
      by true = refl
      by false = refl
  first_plan parts rules (start.GetWith key replace) = loads_first (is_disabled rules) _
  first_plan parts rules (start.Optional key) = loads_first (is_disabled rules) _
  first_plan parts rules (start.Try key) = loads_first (is_disabled rules) _
  first_plan parts rules (start.OrInsert key value) = by (is_disabled rules)
    where
      by : (disabled : Bool) → is_first (or_insert_plan disabled key value) ≡ true
      by true = refl
      by false = refl
  first_plan parts rules (start.Evict key stamp cause) = by rules.listener
    where
      by : (listener : Bool) → is_first (under_lock listener key (look (plan.To_evict key stamp cause) key)) ≡ true
      by true = refl
      by false = refl
  first_plan parts rules start.Iter = by (is_disabled rules)
    where
      by : (disabled : Bool) → is_first (iter_plan disabled parts) ≡ true
      by true = refl
      by false = walk_first parts
  first_plan parts rules start.Pending = by (is_disabled rules)
    where
      by : (disabled : Bool) → is_first (pending_plan disabled parts) ≡ true
      by true = refl
      by false = refl
  first_plan parts rules _ = refl

  first_over : (p : List (Item K V E)) → is_first p ≡ true → is_over p ≡ false
  first_over [] e = cc
  first_over (item ∷ rest) e = refl

  first_copied : (p : Point K V E) → is_first (plan_at p) ≡ true → IsCopied p
  first_copied (point.Computing (computing.Ask compute found copy)) e = absurd cc
  first_copied (point.Computing _) e = tt
  first_copied (point.Listening (listening.Uncopied key old write then)) e = absurd cc
  first_copied (point.Listening _) e = refl
  first_copied _ e = tt

  -- of a point that has the plan of a fresh call
  pub fresh_live : (p : Point K V E) (parts : ℕ) (rules : Rules) (s : Start K V) → plan_at p ≡ plan_of parts rules s → is_over (plan_at p) ≡ false
  fresh_live p parts rules s is = first_over (plan_at p) (rw is (first_plan parts rules s))

  pub fresh_copied : (p : Point K V E) (parts : ℕ) (rules : Rules) (s : Start K V) → plan_at p ≡ plan_of parts rules s → IsCopied p
  fresh_copied p parts rules s is = first_copied p (rw is (first_plan parts rules s))
