-- Maintenance goes on with what it has still to do.
use Rattle.std.proofs.Common.{◌≡◌, ℕ, false, List, [], ◌∷◌, Some, refl, sym, ap, ◌∙◌, subst}
use Rattle.moka_hist.specs.Maintenance.{after_candidates, carrying}
use Rattle.moka_hist.specs.Next.{goes}
use Rattle.moka_hist.specs.Plan.{Item, lists_from}
use Rattle.moka_hist.specs.Plan as plan
use Rattle.moka_hist.specs.State.{Call}
use Rattle.moka_hist.specs.Step.{going_as}
use Rattle.moka_hist.specs.declared.accesses.Turn.TheVariants as turn
use Rattle.moka_hist.specs.declared.records.Mode.TheVariants as mode
use Rattle.moka_hist.specs.declared.replies.Answer.TheVariants as answer
use Rattle.moka_hist.specs.declared.visits.Found.TheVariants as found
use Rattle.moka_init.specs.declared.flow.Flow.{Flow}
use Rattle.moka_init.specs.declared.points.Maintenance.{Maintenance}
use Rattle.moka_init.specs.declared.points.Maintenance.TheVariants as maintenance
use Rattle.moka_init.specs.declared.points.Point.TheVariants as point
use Rattle.moka_init.specs.FlowPlan.{is_over, standing, standing_with, GoesOn}
use Rattle.moka_init.specs.PointPlan.{carried_in, maintaining_plan}

live_so : {K V : Type 0} (E : Type 0) (m : Maintenance K V) → is_over {K = K} {V = V} {E = E} (maintaining_plan m) ≡ false
live_so E (maintenance.Turn parts) = refl
live_so E (maintenance.Apply parts) = refl
live_so E (maintenance.End parts) = refl
live_so E (maintenance.Candidates parts) = refl
live_so E (maintenance.List part ids) = refl
live_so E (maintenance.Find key rest ids) = refl
live_so E (maintenance.Strike key stored rest ids) = refl
live_so E (maintenance.Retire ids) = refl

module _ {K V E : Type 0} where
  goes_so : (c : Call K V E) (m : Maintenance K V) → goes c (maintaining_plan m) ≡ going_as (record c { mode = mode.Mid; plan = maintaining_plan m })
  goes_so c (maintenance.Turn parts) = refl
  goes_so c (maintenance.Apply parts) = refl
  goes_so c (maintenance.End parts) = refl
  goes_so c (maintenance.Candidates parts) = refl
  goes_so c (maintenance.List part ids) = refl
  goes_so c (maintenance.Find key rest ids) = refl
  goes_so c (maintenance.Strike key stored rest ids) = refl
  goes_so c (maintenance.Retire ids) = refl

  -- the call goes on there, where that is its plan and it carries these predicates
  pub goes_there : (old : Flow K V E) (ids : List (ℕ × ℕ)) (items p : List (Item K V E)) (m : Maintenance K V) → maintaining_plan m ≡ p → carried_in m ≡ Some ids →
      GoesOn old (goes (standing_with old (Some ids) items) p) turn.Going (record old { mode = mode.Mid; point = point.Maintaining m })
  goes_there old ids items p m is carries = record {
    next = ap (λ o. going_as (record (standing_with old o (maintaining_plan m)) { mode = mode.Mid })) carries
        ∙ sym (goes_so (standing_with old (Some ids) items) m) ∙ ap (goes (standing_with old (Some ids) items)) is;
    leaves = live_so E m;
    number = refl;
    begun = refl;
  }

  -- where some predicates may leave, all records are looked at first
  pub chosen : (c : Call K V E) (parts : ℕ) (ids : List (ℕ × ℕ)) → (ids ≡ [] → ⊥) →
      after_candidates c parts (found.Candidates ids) ≡ goes (carrying c ids) (lists_from 0 parts (plan.Retire ∷ []))
  chosen c parts [] some = absurd (some refl)
  chosen c parts (id ∷ more) some = refl

  -- where none may leave, that is answered
  pub chosen_none : (old : Flow K V E) (items : List (Item K V E)) (parts : ℕ) (ids : List (ℕ × ℕ)) → ids ≡ [] →
      GoesOn old (after_candidates (standing old items) parts (found.Candidates ids)) (turn.Answer answer.Done) (record old { point = point.Spent })
  chosen_none old items parts ids none =
      subst (λ v. GoesOn old (after_candidates (standing old items) parts (found.Candidates v)) (turn.Answer answer.Done) (record old { point = point.Spent })) (sym none)
      (record { next = refl; leaves = record { plan = refl; holds = refl }; number = refl; begun = refl })
