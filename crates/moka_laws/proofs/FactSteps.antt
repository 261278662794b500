-- Of a fact of keys and values, which is so of equal keys alike: where a call and the table meet it,
-- they meet it after each access of the call, and what the call hands out meets it for its own key.
use Rattle.std.proofs.Common.{◌≡◌, ℕ, Bool, true, List, [], ◌∷◌, Option, Some, None}
use Rattle.std.specs.Prelude.{unwrap_or}
use Rattle.moka_hist.specs.Plan.{Item, plan_of}
use Rattle.moka_hist.specs.Plan as plan
use Rattle.moka_hist.specs.State.{World, Call}
use Rattle.moka_hist.specs.Step.{Gets, access_of, next_of}
use Rattle.moka_hist.specs.Visits.{settlement_for}
use Rattle.moka_hist.specs.declared.accesses.Got.{Got}
use Rattle.moka_hist.specs.declared.events.Start.{Start}
use Rattle.moka_hist.specs.declared.events.Told.{Told}
use Rattle.moka_hist.specs.declared.loads.Sought.{Sought}
use Rattle.moka_hist.specs.declared.rules.Rules.{Rules}
use Rattle.moka_hist.specs.declared.visits.Settled.{Settled}
use Rattle.moka_laws.specs.Fair.{Leads, NextFair, PlanFair, TableFair, ValueFair, ready}
use Rattle.moka_laws.specs.Starts.{brought, key_started}
use Rattle.moka_laws.proofs.Counting.{none_some}
use Rattle.moka_laws.proofs.FairSteps.{access_fair, fresh_fair, rest_fair}

-- what may be stored may be handed out, for equal keys too
alike_leads : {K V : Type 0} (P : K → V → Type 0) (eq : K → K → Bool) →
    ((a b : K) (value : V) → eq a b ≡ true → P a value → P b value) → Leads P P eq
alike_leads P eq alike =
    record { own = λ k value h. h; near = λ k q value h e. alike k q value e h }

module _ {K V E : Type 0} (P : K → V → Type 0) (q : K) where
  -- a plan that meets the fact, whatever its call was told, meets it where that was nothing
  pub untold_meets : (told : Option (Told V E)) (rest : List (Item K V E)) →
      PlanFair P P q told rest → PlanFair P P q None rest
  untold_meets told [] h = h
  untold_meets told (plan.Told load ∷ rest) h = ((h.0.0, λ given value e f. absurd (none_some e)), h.1)
  untold_meets told (plan.Told_op compute pair ∷ rest) h =
      ((h.0.0, h.0.1, λ given value e f. absurd (none_some e)), h.1)
  untold_meets told (_ ∷ rest) h = h

  module _ (eq : K → K → Bool)
      (alike : (a b : K) (value : V) → eq a b ≡ true → P a value → P b value) where
    pub access_meets : (w : World K V E) (n : ℕ) (c : Call K V E) → TableFair P eq w.table.stored →
        ((sought : Sought K) (rest : List (Item K V E)) → c.plan ≡ plan.Read sought ∷ rest →
        (with : Settled V E) → settlement_for w.desk n ≡ Some with → ValueFair P q (ready with)) →
        PlanFair P P q (w.desk.told n) c.plan →
        (given : Got K V E) (new : World K V E) → Gets eq n w (access_of n c) given new →
        TableFair P eq new.table.stored × NextFair P P q (new.desk.told n) (next_of n c given)
    access_meets w n c table reads meets given new gets =
        let after = access_fair P P q eq (alike_leads P eq alike) (λ owned waits ended. Unit {0}) w n c table (record {
          now = tt;
          owned = λ load is. tt;
          joins = λ load owner is owns. tt;
          was_read = tt;
          reads = reads;
          settles = λ with rest is h. tt;
        }) meets given new gets in
        (after.table, after.fair)

-- a fresh call meets it for its key, where what it brings does; one without a key, for any
pub fresh_meets : {K V : Type 0} (E : Type 0) (P : K → V → Type 0) (parts : ℕ) (rules : Rules)
    (start : Start K V) (told : Option (Told V E)) (none : K) →
    ((key : K) (value : V) → brought start ≡ Some (key, value) → P key value) →
    PlanFair P P (unwrap_or (key_started start) none) told (plan_of {E = E} parts rules start)
fresh_meets E P parts rules start told none gave =
    rest_fair P P (unwrap_or (key_started start) none) told (plan_of {E = E} parts rules start)
    (fresh_fair E P P (λ key value h. h) parts rules start gave none)
