-- The access of a call that lets predicates go.
use Rattle.std.proofs.Common.{◌≡◌, ℕ, Bool, true, false, List, Option, Some, refl, sym, ap, ◌∙◌, subst}
use Rattle.moka_hist.specs.Next.{answers}
use Rattle.moka_hist.specs.Step.{access_of, next_of, want_for}
use Rattle.moka_hist.specs.Step as step
use Rattle.moka_hist.specs.declared.accesses.Got.{Got}
use Rattle.moka_hist.specs.declared.accesses.Got.TheVariants as got
use Rattle.moka_hist.specs.declared.accesses.Want.TheVariants as want
use Rattle.moka_hist.specs.declared.replies.Answer.TheVariants as answer
use Rattle.moka_hist.specs.declared.visits.Found.TheVariants as found
use Rattle.moka_hist.specs.declared.tables.TableOp.{TableOp}
use Rattle.moka_hist.specs.declared.visits.Visit.TheVariants as visit
use Rattle.moka_init.specs.declared.flow.Flow.{Flow}
use Rattle.moka_init.specs.declared.points.Maintenance.TheVariants as maintenance
use Rattle.moka_init.specs.declared.points.Point.TheVariants as point
use Rattle.moka_init.specs.FlowPlan.{call_of, is_begun, standing_with}
use Rattle.moka_init.specs.Forms.{HasForm}
use Rattle.moka_init.specs.Grounds.{HasBegun, access_at, wanted, wish_of}
use Rattle.moka_init.specs.PointPlan.{carried_at, plan_at}

module _ {K V E : Type 0} (flow : Flow K V E) (ids : List (ℕ × ℕ)) (stands : flow.point ≡ point.Maintaining (maintenance.Retire ids)) where
  -- it is the visit that lets them go
  pub leaves_by : access_at flow ≡ step.On_desk (visit.Retire ids)
  leaves_by = ap (λ p. access_of flow.call (standing_with flow (carried_at p) (plan_at p))) stands

  wanted_so : (b : Bool) → want_for {K = K} {V = V} {E = E} b (step.On_desk (visit.Retire ids)) ≡ want.Desk (visit.Retire ids)
  wanted_so true = refl
  wanted_so false = refl

  -- so it is wanted
  pub leaving_wish : wish_of flow ≡ want.Desk (visit.Retire ids)
  leaving_wish = ap (λ a. want_for flow.begun a) leaves_by ∙ wanted_so flow.begun

  -- and it is what the ground takes for wanted
  pub leaving_on : (begun : Option (TableOp K V)) → HasBegun begun flow → wanted begun (want.Desk (visit.Retire ids)) ≡ Some (access_at flow)
  leaving_on begun on = subst (λ w. wanted begun w ≡ Some (access_at flow)) leaving_wish on

  -- what is found then
  pub found_so : (given : Got K V E) → HasForm (access_at flow) given → given ≡ got.Desk found.Retire
  found_so (got.Table turn) form = absurd (subst (λ a. HasForm a (got.Table turn)) leaves_by form)
  found_so (got.Desk f) form = ap got.Desk (subst (λ a. HasForm a (got.Desk f)) leaves_by form)

  -- and by that the call has answered
  pub done_by : (given : Got K V E) → HasForm (access_at flow) given → next_of flow.call (call_of flow) given ≡ answers answer.Done
  done_by given form =
      ap (λ f. next_of flow.call (call_of flow) f) (found_so given form)
      ∙ ap (λ p. next_of flow.call (standing_with flow (carried_at p) (plan_at p)) (got.Desk found.Retire)) stands

  -- so that nothing is begun
  pub begun_by : (given : Got K V E) → HasForm (access_at flow) given → is_begun given ≡ false
  begun_by given form = ap (λ f. is_begun f) (found_so given form)
