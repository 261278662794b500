-- A compute that answers an error was told it.
use Rattle.std.proofs.Common.{◌≡◌, ℕ, Bool, Option, Some, None, refl, sym, ap, ◌∙◌, subst}
use Rattle.moka_hist.specs.Entries.{put_answer, unchanged}
use Rattle.moka_hist.specs.State.{State}
use Rattle.moka_hist.specs.declared.events.Op.TheVariants as op
use Rattle.moka_hist.specs.declared.events.Start.{Start}
use Rattle.moka_hist.specs.declared.events.Told.{Told}
use Rattle.moka_hist.specs.declared.events.Told.TheVariants as told
use Rattle.moka_hist.specs.declared.loads.Compute.{Compute}
use Rattle.moka_hist.specs.declared.records.Stored.{Stored}
use Rattle.moka_hist.specs.declared.replies.Answer.{Answer}
use Rattle.moka_hist.specs.declared.replies.Answer.TheVariants as answer
use Rattle.moka_laws.specs.Computes.{ComputeSays, Reports, SaysTold, TakesOp, Was_disabled, Was_told, out_answer}
use Rattle.moka_laws.specs.Starting.{HasMade}
use Rattle.moka_laws.proofs.Computed.{answers_told}
use Rattle.moka_laws.proofs.Counting.{none_some, some_same}
use Rattle.moka_callers.specs.Computing.{ComputeErrorsWereTold}

module _ {K V E : Type 0} where
  -- the error that a compute answers, if it answers one
  abbrev failed : Answer K V E → Option E
  failed (answer.ComputeErr error) = Some error
  failed _ = None

  unchanged_well : (key : K) (pair : Option (K × V)) → failed (unchanged key pair) ≡ None
  unchanged_well key None = refl
  unchanged_well key (Some pair) = refl

  put_well : (key : K) (pair : Option (K × V)) (value : V) →
      failed (put_answer key pair value) ≡ None
  put_well key None value = refl
  put_well key (Some pair) value = refl

  out_well : (key : K) (out : Option (K × Stored V)) → failed (out_answer key out) ≡ None
  out_well key None = refl
  out_well key (Some pair) = refl

module _ {K V E : Type 0} (eq : K → K → Bool) (t : State K V E) (n : ℕ) (key : K) (error : E) where
  -- where the error was told
  abbrev WasTold : Type 0
  WasTold = (compute : Compute K) × (pair : Option (K × V)) × (compute.key ≡ key) ×
      HasMade eq t n (TakesOp n compute pair (told.Err error))

  -- no answer without an error is this one
  not_well : (a : Answer K V E) → failed a ≡ None → answer.ComputeErr error ≡ a → WasTold
  not_well a well is = absurd (none_some (sym (ap failed is ∙ well)))

  by_told : (compute : Compute K) (pair : Option (K × V)) (given : Told V E) →
      compute.key ≡ key → HasMade eq t n (TakesOp n compute pair given) →
      SaysTold eq t n key pair given (answer.ComputeErr error) → WasTold
  by_told compute pair (told.Op op.Nop) at took is =
      not_well (unchanged key pair) (unchanged_well key pair) is
  by_told compute pair (told.Op (op.Put value)) at took is =
      not_well (put_answer key pair value) (put_well key pair value) is
  by_told compute pair (told.Value value) at took is =
      not_well (put_answer key pair value) (put_well key pair value) is
  by_told compute pair (told.Op op.Remove) at took is =
      not_well (out_answer key is.0) (out_well key is.0) is.2
  by_told compute pair (told.Err other) at took is = (
    compute,
    pair,
    at,
    subst (λ v. HasMade eq t n (TakesOp n compute pair (told.Err v)))
        (some_same (sym (ap failed is))) took,
  )
  by_told compute pair _ at took is = absurd is

  by_says : (begin : Start K V) → ComputeSays eq begin t n key (answer.ComputeErr error) → WasTold
  by_says begin (Was_told compute pair given at asked took is) =
      by_told compute pair given at took is
  by_says begin (Was_disabled alone aside disabled is) =
      not_well (unchanged key None) (unchanged_well {V = V} key None) is
  by_says begin (Reports pair alone aside shown is) =
      not_well (unchanged key pair) (unchanged_well key pair) is

module _ {K V E : Type 0} (eq : K → K → Bool) where
  pub errors_told : ComputeErrorsWereTold K V E eq
  errors_told s t begin key n error was is step =
      by_says eq t n key error begin
      (answers_told eq s t begin key n (answer.ComputeErr error) was is step)
