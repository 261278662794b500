-- What a flow wants and needs is what the point wants and needs at which it stands.
use Rattle.std.proofs.Common.{◌≡◌, sym, subst}
use Rattle.std.specs.Prelude.{Bool, true, false, MatchBool, Option, Some, Result, Ok, Err, IfOk, IfSome, OnErr}
use Rattle.moka_hist.specs.declared.accesses.Want.{Want}
use Rattle.moka_needs.specs.declared.needs.Need.{Need}
use Rattle.moka_init.specs.declared.flow.Flow.{Flow}
use Rattle.moka_init.specs.declared.points.Point.{Point}
use Rattle.moka_init.specs.FlowPlan.{retires_in}
use Rattle.moka_init.specs.PointPlan.{carried_at, plan_at}
use Rattle.moka_init.specs.Grounds.{access_at, access_with, wish_of, wish_with, CopiesAt, CopiesWith, TakesCopies}
use Rattle.moka_init.specs.Needs.{is_claim, need_at}
use Rattle.moka_init.specs.Openings.{opening_of}
use Rattle.moka_init.specs.declared.opening.Opening.{Opening}

module _ {K V E F : Type 0} (flow : Flow K V E) (p : Point K V E) (stands : flow.point ≡ p) where
  pub wants : (r : Result (Want K V E) F) → IfOk r (λ want. want ≡ wish_with flow (carried_at p) (plan_at p))
      → IfOk r (λ want. want ≡ wish_of flow)
  wants r = subst (λ q. IfOk r (λ want. want ≡ wish_with flow (carried_at q) (plan_at q))) (sym stands)

  pub copies : (r : Result (Want K V E) F) → OnErr r (TakesCopies (access_with flow (carried_at p) (plan_at p)))
      → OnErr r (CopiesAt flow)
  copies r h = subst (λ q. OnErr r (CopiesWith flow (carried_at q) (plan_at q))) (sym stands) (by r h)
    where
      either : (b : Bool) → TakesCopies (access_with flow (carried_at p) (plan_at p)) → MatchBool b (Unit {0}) (TakesCopies (access_with flow (carried_at p) (plan_at p)))
      either true h = tt
      either false h = h

      by : (r : Result (Want K V E) F) → OnErr r (TakesCopies (access_with flow (carried_at p) (plan_at p))) → OnErr r (CopiesWith flow (carried_at p) (plan_at p))
      by (Ok want) h = tt
      by (Err error) h = either (retires_in (plan_at p)) h

  -- where predicates may leave
  pub all_copies : (r : Result (Want K V E) F) → OnErr r (CopiesWith flow (carried_at p) (plan_at p)) → OnErr r (CopiesAt flow)
  all_copies r = subst (λ q. OnErr r (CopiesWith flow (carried_at q) (plan_at q))) (sym stands)

  pub may_need : (r : Result (Option (Need K)) F) → IfOk r (λ need. need ≡ need_at (access_with flow (carried_at p) (plan_at p)))
      → IfOk r (λ need. need ≡ need_at (access_at flow))
  may_need r = subst (λ q. IfOk r (λ need. need ≡ need_at (access_with flow (carried_at q) (plan_at q)))) (sym stands)

  pub claims : (r : Result (Option (Need K)) F) → OnErr r (is_claim (need_at (access_with flow (carried_at p) (plan_at p))) ≡ true)
      → OnErr r (is_claim (need_at (access_at flow)) ≡ true)
  claims r = subst (λ q. OnErr r (is_claim (need_at (access_with flow (carried_at q) (plan_at q))) ≡ true)) (sym stands)

module _ {K V E : Type 0} (flow : Flow K V E) (p : Point K V E) (stands : flow.point ≡ p) where
  pub needs : (need : Option (Need K)) → need ≡ need_at (access_with flow (carried_at p) (plan_at p))
      → need ≡ need_at (access_at flow)
  needs need = subst (λ q. need ≡ need_at (access_with flow (carried_at q) (plan_at q))) (sym stands)

  pub opens : (r : Option Opening) → IfSome r (λ o. opening_of (access_with flow (carried_at p) (plan_at p)) ≡ Some o)
      → IfSome r (λ o. opening_of (access_at flow) ≡ Some o)
  opens r = subst (λ q. IfSome r (λ o. opening_of (access_with flow (carried_at q) (plan_at q)) ≡ Some o)) (sym stands)
