-- What a ground tells of steps, one after the other.
use Rattle.std.proofs.Common.{◌≡◌, ℕ, ◌+◌, List, [], ◌∷◌, ◌++◌, Option, Some, refl, sym, ap, subst, ◌∙◌}
use Rattle.std.proofs.lemmas.List.{append_assoc, length-append, append-nil}
use Rattle.moka_hist.specs.State.{Call}
use Rattle.moka_hist.specs.Step.{LeadsAlong, access_of, next_of, going_as}
use Rattle.moka_hist.specs.declared.accesses.Got.{Got}
use Rattle.moka_hist.specs.declared.accesses.Turn.{Turn}
use Rattle.moka_hist.specs.declared.accesses.Turn.TheVariants as turn
use Rattle.moka_init.specs.declared.flow.Flow.{Flow}
use Rattle.moka_init.specs.FlowPlan.{call_of, next_in}
use Rattle.moka_init.specs.Telling.{Made, TellsStep, TellsSteps, TellsPoll}

module _ {K V E : Type 0} where
  -- a call that goes on to d goes on by one more access
  pub leads_more : (n : ℕ) (c : Call K V E) (path : List (Made K V E)) (d : Call K V E) (given : Got K V E) (e : Call K V E)
      → LeadsAlong n c path d → next_of n d given ≡ going_as e → LeadsAlong n c (path ++ (access_of n d, given) ∷ []) e
  leads_more n c [] d given e here goes =
      let same : access_of n d ≡ access_of n c = ap (λ x. access_of n x) here in
      let on : next_of n c given ≡ going_as e = subst (λ (x : Call K V E). next_of n x given ≡ going_as e) here goes in
      (e, same, on, refl)
  leads_more n c (made ∷ more) d given e leads goes =
      (leads.0, leads.1, leads.2, leads_more n leads.0 more d given e leads.3 goes)

  -- no step tells nothing
  pub told_none : (n : ℕ) (c : Call K V E) (before : List (Made K V E)) (after : Option (List (Made K V E)))
      → after ≡ Some before → TellsSteps 0 n c c before after
  told_none n c before after e =
      record { path = []; steps = refl; leads = refl; told = e ∙ ap (λ l. Some l) (sym (append-nil before)) }

  -- one more step that leaves the flow going
  pub told_more : (k : ℕ) (first flow new : Flow K V E) (t : Turn K V E) (before : List (Made K V E)) (mid after : Option (List (Made K V E)))
      → flow.call ≡ first.call → t ≡ turn.Going
      → (so_far : TellsSteps k first.call (call_of first) (call_of flow) before mid)
      → TellsStep flow.call (call_of flow) (next_in t new) (before ++ so_far.path) after
      → TellsSteps (k + 1) first.call (call_of first) (call_of new) before after
  told_more k first flow new t before mid after number going so_far step =
      let next : next_of first.call (call_of flow) step.0 ≡ going_as (call_of new) =
      subst (λ (u : Turn K V E). next_of first.call (call_of flow) step.0 ≡ next_in u new) going
      (subst (λ (n : ℕ). next_of n (call_of flow) step.0 ≡ next_in t new) number (sym step.1)) in
      let made : Made K V E = (access_of first.call (call_of flow), step.0) in
      let tells : after ≡ Some ((before ++ so_far.path) ++ made ∷ []) =
      subst (λ (n : ℕ). after ≡ Some ((before ++ so_far.path) ++ (access_of n (call_of flow), step.0) ∷ [])) number step.2 in
      record {
        path = so_far.path ++ made ∷ [];
        steps = length-append so_far.path (made ∷ []) ∙ ap (λ j. j + 1) so_far.steps;
        leads = leads_more first.call (call_of first) so_far.path (call_of flow) step.0 (call_of new) so_far.leads next;
        told = tells ∙ ap (λ l. Some l) (append_assoc before so_far.path (made ∷ []));
      }

  -- the last step
  pub told_last : (k : ℕ) (first flow new : Flow K V E) (t : Turn K V E) (before : List (Made K V E)) (mid after : Option (List (Made K V E)))
      → flow.call ≡ first.call
      → (so_far : TellsSteps k first.call (call_of first) (call_of flow) before mid)
      → TellsStep flow.call (call_of flow) (next_in t new) (before ++ so_far.path) after
      → TellsPoll first.call (call_of first) (next_in t new) before after
  told_last k first flow new t before mid after number so_far step =
      record {
        path = so_far.path;
        call = call_of flow;
        leads = so_far.leads;
        given = step.0;
        turns = subst (λ (n : ℕ). next_in t new ≡ next_of n (call_of flow) step.0) number step.1;
        told = subst (λ (n : ℕ). after ≡ Some ((before ++ so_far.path) ++ (access_of n (call_of flow), step.0) ∷ [])) number step.2;
      }
