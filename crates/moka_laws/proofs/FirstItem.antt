-- One step of a live call whose plan is known.
use Rattle.std.proofs.Common.{◌≡◌, ℕ, Bool, List, Some, sym, ◌∙◌, subst}
use Rattle.moka_hist.specs.State.{State, Call, World}
use Rattle.moka_hist.specs.Plan.{Item}
use Rattle.moka_hist.specs.Next.{Next}
use Rattle.moka_hist.specs.Step.{Step, state_after}
use Rattle.moka_hist.specs.declared.accesses.Turn.{Turn}
use Rattle.moka_laws.proofs.Counting.{some_same}
use Rattle.moka_laws.proofs.StepCases.{OnStep, step_cases}

module _ {K V E : Type 0} (eq : K → K → Bool) where
  -- what follows from all that the call may make by its plan holds of what it made
  pub call_cases : (M : World K V E → Next K V E → Type 0)
      (P : State K V E → Turn K V E → Type 0) (s t : State K V E) (n : ℕ) (c : Call K V E)
      (p : List (Item K V E)) (turn : Turn K V E) →
      s.calls n ≡ Some c → c.plan ≡ p → Step eq s n turn t → OnStep eq M s.world n c p →
      ((w : World K V E) (next : Next K V E) → M w next → P (state_after s n w next) next.turn) →
      P t turn
  call_cases M P s t n c p turn live e step cases follows =
      let is : step.call ≡ c = some_same (sym step.live ∙ live) in
      step_cases eq M P s t n turn step
      (subst (λ (d : Call K V E). OnStep eq M s.world n d d.plan) (sym is)
      (subst (λ q. OnStep eq M s.world n c q) (sym e) cases)) follows
