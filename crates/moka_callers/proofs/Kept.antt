-- Where there is cause to keep the chosen record, only a table operation stays undecided.
use Rattle.std.proofs.Common.{◌≡◌, ◌⊎◌, inl, inr, ℕ, Bool, true, List, ◌∷◌, Option, Some, IsSomeAnd, refl, sym, ap, ◌∙◌, subst}
use Rattle.std.proofs.lemmas.Bool.{false≢true}
use Rattle.moka_hist.specs.Finite.{put_at}
use Rattle.moka_hist.specs.State.{State, Call}
use Rattle.moka_hist.specs.Plan.{Item}
use Rattle.moka_hist.specs.Plan as plan
use Rattle.moka_hist.specs.Next.{Next}
use Rattle.moka_hist.specs.Looking.{keeps}
use Rattle.moka_hist.specs.Step.{Step}
use Rattle.moka_hist.specs.declared.accesses.Turn.{Turn}
use Rattle.moka_hist.specs.declared.accesses.Turn.TheVariants as turn
use Rattle.moka_hist.specs.declared.records.Mode.TheVariants as mode
use Rattle.moka_hist.specs.declared.records.Stored.{Stored}
use Rattle.moka_hist.specs.declared.replies.Answer.TheVariants as answer
use Rattle.moka_hist.specs.declared.rules.Cause.{Cause}
use Rattle.moka_laws.specs.Removals.{HasKept, IsToKeep, StaysByCause}
use Rattle.moka_laws.proofs.Counting.{put_here, some_same}
use Rattle.moka_laws.proofs.Keeping.{kept_by_cause}
use Rattle.moka_laws.proofs.Outcomes.{outcomes}
use Rattle.moka_laws.proofs.Rules.{kept_next}
use Rattle.moka_laws.proofs.StepCases.{OnStep, step_cases}
use Rattle.moka_callers.specs.Missing.{KeptUnlessUndecided}

module _ {K V E : Type 0} (eq : K → K → Bool) where
  -- the call has answered Kept, or nothing else is left to it
  abbrev Keeps : Next K V E → Type 0
  Keeps next = (next.turn ≡ turn.Answer answer.Kept) ⊎ IsSomeAnd next.left (λ c. IsToKeep c.plan)

  keeps_so : (c : Call K V E) → Keeps (keeps c)
  keeps_so c = kept_next Keeps c (λ off. inl refl) (λ on. inr tt)

  judged_so : (s t : State K V E) (n : ℕ) (c : Call K V E) (key : K) (stamp : ℕ) (cause : Cause)
      (there : K) (found : Stored V) (rest : List (Item K V E)) (r : Turn K V E) →
      s.calls n ≡ Some c → c.plan ≡ plan.Holds key stamp cause there found ∷ rest →
      StaysByCause s (plan.Holds key stamp cause there found) → Step eq s n r t → HasKept t n r
  judged_so s t n c key stamp cause there found rest r live is spared step =
      step_cases eq (λ w next. Keeps next) (λ v q. HasKept v n q) s t n r step
      (subst (λ p. OnStep eq (λ w next. Keeps next) s.world n step.call p)
      (sym (ap (λ (v : Call K V E). v.plan) (some_same (sym step.live ∙ live)) ∙ is))
      (outcomes eq (λ w next. Keeps next) s.world n step.call
      (plan.Holds key stamp cause there found) rest (
        λ holds. absurd (false≢true (sym spared ∙ holds)),
        λ other. keeps_so step.call,
      ))) (λ w next so. by (put_at s.calls n next.left n) next (put_here s.calls n next.left) so)
    where
      by : (o : Option (Call K V E)) (next : Next K V E) → o ≡ next.left → Keeps next →
          (next.turn ≡ turn.Answer answer.Kept) ⊎ IsSomeAnd o (λ d. IsToKeep d.plan)
      by o next same (inl answers) = inl answers
      by o next same (inr left) = inr (subst (λ x. IsSomeAnd x (λ d. IsToKeep d.plan)) (sym same) left)

  pub unless_undecided : KeptUnlessUndecided K V E eq
  unless_undecided s t n c (plan.Get aim key) rest r h live is cause step =
      by ((kept_by_cause eq s t n c (plan.Get aim key) rest r h live is step).each cause)
    where
      by : HasKept t n r ⊎ (t.calls n ≡ Some (record c { mode = mode.Mid })) →
          HasKept t n r ⊎ ((true ≡ true) × (t.calls n ≡ Some (record c { mode = mode.Mid })))
      by (inl kept) = inl kept
      by (inr stays) = inr (refl, stays)
  unless_undecided s t n c (plan.Out removal key) rest r h live is cause step =
      by ((kept_by_cause eq s t n c (plan.Out removal key) rest r h live is step).each cause)
    where
      by : HasKept t n r ⊎ (t.calls n ≡ Some (record c { mode = mode.Mid })) →
          HasKept t n r ⊎ ((true ≡ true) × (t.calls n ≡ Some (record c { mode = mode.Mid })))
      by (inl kept) = inl kept
      by (inr stays) = inr (refl, stays)
  unless_undecided s t n c (plan.Holds key stamp cause there found) rest r h live is spared step =
      inl (judged_so s t n c key stamp cause there found rest r live is spared step)
  unless_undecided s t n c item rest r h live is cause step = absurd cause
