-- What is so of the access that is wanted is so of the flow's, which is wanted.
use Rattle.std.proofs.Common.{◌≡◌, ℕ, Bool, false, Some, Result, Ok, Err, inl, inr, subst}
use Rattle.std.specs.Prelude.{MatchBool, IfOk, OnErr}
use Rattle.std.proofs.lemmas.Result.{IfOk-weaker, on_err_weaker}
use Rattle.moka_hist.specs.State.{World}
use Rattle.moka_hist.specs.Step.{Access, May}
use Rattle.moka_hist.specs.declared.accesses.Got.{Got}
use Rattle.moka_hist.specs.declared.accesses.Want.{Want}
use Rattle.moka_init.specs.declared.flow.Flow.{Flow}
use Rattle.moka_init.specs.FlowPlan.{call_of, retires_in}
use Rattle.moka_init.specs.Grounds.{Account, Accesses, CopiesAt, Gives, Lacks, OfWanted, TakesCopies, access_at, wanted}
use Rattle.moka_init.specs.Steps.{MayLack}

module _ {K V E F : Type 0} (account : Account K V E) (wish : Want K V E) (access : Access K V E) (on : wanted account.begun wish ≡ Some access) (r : Result (Got K V E) F) where
  pub gives_so : (eq : K → K → Bool) (n : ℕ) (stood stands : World K V E → Type 0) → account.call ≡ n →
      IfOk r (λ given. OfWanted account wish (λ a. Gives eq account.call stood a given stands)) → IfOk r (λ given. Gives eq n stood access given stands)
  gives_so eq n stood stands call h =
      IfOk-weaker r (λ given. OfWanted account wish (λ a. Gives eq account.call stood a given stands)) (λ given. Gives eq n stood access given stands)
      (λ given gives. subst (λ m. Gives eq m stood access given stands) call (gives access on)) h

  pub tells_so : (then : Account K V E) → IfOk r (λ given. OfWanted account wish (λ a. Accesses account a given then)) → IfOk r (λ given. Accesses account access given then)
  tells_so then h =
      IfOk-weaker r (λ given. OfWanted account wish (λ a. Accesses account a given then)) (λ given. Accesses account access given then)
      (λ given tells. tells access on) h

module _ {K V E F : Type 0} (flow : Flow K V E) (r : Result (Got K V E) F) (stood : World K V E → Type 0) (needs : World K V E → Access K V E → Type 0) where
  -- memory was wanting on the ground
  pub lacks_so : (account : Account K V E) (wish : Want K V E) → wanted account.begun wish ≡ Some (access_at flow) → OnErr r (OfWanted account wish (Lacks stood needs)) →
      OnErr r ((w : World K V E) → stood w → May w (access_at flow) → MayLack needs w flow)
  lacks_so account wish on h = on_err_weaker r (λ lacks w is may. inr (lacks (access_at flow) on w is may)) h

  -- memory was wanting for the flow's copies
  pub copies_so : CopiesAt flow → retires_in (call_of flow).plan ≡ false → OnErr r ((w : World K V E) → stood w → May w (access_at flow) → MayLack needs w flow)
  copies_so copies stays = by r (subst (λ b. MatchBool b (Unit {0}) (TakesCopies (access_at flow))) stays copies)
    where
      by : (q : Result (Got K V E) F) → TakesCopies (access_at flow) → OnErr q ((w : World K V E) → stood w → May w (access_at flow) → MayLack needs w flow)
      by (Ok given) takes = tt
      by (Err error) takes = λ w is may. inl takes
