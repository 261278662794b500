-- What stays of a state that is polled.
use Rattle.std.proofs.Common.{◌≡◌, ℕ, Bool, Option, refl, subst}
use Rattle.futures.specs.Poll.{OnPending}
use Rattle.futures.specs.declared.task.Poll.{Poll}
use Rattle.futures.specs.declared.task.Poll.TheVariants.{Ready, Pending}
use Rattle.moka_cache.specs.Stages.{IsNamed, StagePends}
use Rattle.moka_cache.specs.declared.stage.Stage.{Stage}
use Rattle.moka_cache.specs.declared.stage.Stage.TheVariants as stage

-- ---- the key of the entry that it answers

module _ {A K V E : Type 0} (names : A → Option K) where
  -- nothing has changed
  pub named_same : (stage : Stage A K V E) (kept : Option K) → IsNamed names stage kept stage kept
  named_same (stage.Fresh a) kept = refl
  named_same (stage.Running f) kept = refl
  named_same stage.Spent kept = tt
  named_same stage.Answered kept = refl

-- ---- why it is pending

module _ {A K V E Q T : Type 0} (eq : K → K → Bool) (pends : Q → Q → Type 0) (unheard : ℕ → Type 0) (asked : Q) where
  -- a state whose poll is pending has a number
  pub numbered_by : (poll : Poll T) (s : Stage A K V E) → OnPending poll (StagePends eq pends unheard asked s) → OnPending poll (s ≡ stage.Spent → ⊥)
  numbered_by (Ready r) s pends_so = tt
  numbered_by Pending s pends_so = λ is. subst (λ (x : Stage A K V E). StagePends eq pends unheard asked x) is pends_so
