-- Where a run stops for want of memory.
use Rattle.std.proofs.Common.{◌≡◌, ℕ, Bool, List, take, Option, Some, None, refl, sym, subst, arith}
use Rattle.std.specs.Prelude.{slice_get}
use Rattle.std.specs.declared.cmp.PartialEq as PartialEq
use Rattle.std.specs.declared.hash.Hash as Hash
use Rattle.moka_hist.specs.State.{State}
use Rattle.moka_hist.specs.Places.{IsLawful}
use Rattle.moka_hist.specs.Run.{Any, Goings, Run, IsReached}
use Rattle.moka_hist.specs.declared.events.Event.{Event}
use Rattle.moka_hist.specs.declared.events.Event.TheVariants as event
use Rattle.moka_hist.specs.declared.replies.Reply.{Reply}
use Rattle.moka_hist.specs.declared.record_tests.Tests as Tests
use Rattle.moka_machine.specs.Machine.{BeginsEvent, MachineIs}
use Rattle.moka_machine.specs.WantOfMemory.{MayStopIn}
use Rattle.moka_run.specs.Running.{StopCause, In_event, StopsAt}
use Rattle.moka_machine.specs.declared.machine.Machine.{Machine}
use Rattle.moka_run.specs.declared.report.Memory.{Memory}

module _ {K V E : Type 0} (eq : K → K → Bool) where
  -- nothing of the next event was done
  begins_none : (s : State K V E) (next : Option (Event K V E)) → BeginsEvent eq (IsLawful eq) s next 0 s
  unfolding Goings
  begins_none s None = (refl, refl)
  begins_none s (Some (event.Poll n)) = (0, omega arith, refl)
  begins_none s (Some (event.At moment)) = (refl, refl)
  begins_none s (Some (event.Start start)) = (refl, refl)
  begins_none s (Some (event.Step n)) = (refl, refl)
  begins_none s (Some (event.Tell n answer)) = (refl, refl)
  begins_none s (Some (event.Drop n)) = (refl, refl)

  -- the steps of an event that was begun go through lawful states
  begins_lawful : (s t : State K V E) (e : Event K V E) (steps : ℕ) → ((k n : ℕ) → Goings eq Any k s n t → Goings eq (IsLawful eq) k s n t)
      → BeginsEvent eq Any s (Some e) steps t → BeginsEvent eq (IsLawful eq) s (Some e) steps t
  begins_lawful s t (event.Poll n) steps lawful begins = (begins.0, begins.1, lawful begins.0 n begins.2)
  begins_lawful s t (event.At moment) steps lawful begins = begins
  begins_lawful s t (event.Start start) steps lawful begins = begins
  begins_lawful s t (event.Step n) steps lawful begins = begins
  begins_lawful s t (event.Tell n answer) steps lawful begins = begins
  begins_lawful s t (event.Drop n) steps lawful begins = begins

  -- what an event that was begun has left is reached
  pub begins_reached : (s t : State K V E) (e : Event K V E) (steps : ℕ) → IsReached eq s → ((k n : ℕ) → Goings eq Any k s n t → IsReached eq t)
      → BeginsEvent eq Any s (Some e) steps t → IsReached eq t
  begins_reached s t (event.Poll n) steps reached reaches begins = reaches begins.0 n begins.2
  begins_reached s t (event.At moment) steps reached reaches begins = subst (λ (u : State K V E). IsReached eq u) (sym begins.1) reached
  begins_reached s t (event.Start start) steps reached reaches begins = subst (λ (u : State K V E). IsReached eq u) (sym begins.1) reached
  begins_reached s t (event.Step n) steps reached reaches begins = subst (λ (u : State K V E). IsReached eq u) (sym begins.1) reached
  begins_reached s t (event.Tell n answer) steps reached reaches begins = subst (λ (u : State K V E). IsReached eq u) (sym begins.1) reached
  begins_reached s t (event.Drop n) steps reached reaches begins = subst (λ (u : State K V E). IsReached eq u) (sym begins.1) reached

module _ {K V E T : Type 0} {same : PartialEq.Ghosts K} {hash : Hash.Ghosts K} (eq : K → K → Bool) (q : Tests.Ghosts T K V) where
  -- memory was wanting between two events, or after the last
  pub stops_between : (m : Machine K V E T same hash) (events : List (Event K V E)) (stop : Memory K V E) (done : ℕ) (replies : List (Reply K V E)) (s mid : State K V E)
      → stop ≡ record { done = done; steps = 0; replies = replies } → Run eq (IsLawful eq) s (take done events) replies mid → MachineIs eq q m mid
      → StopCause events done 0 mid
      → StopsAt eq q events stop.done stop.steps stop.replies m s
  stops_between m events stop done replies s mid is run stands cause =
      subst (λ (x : Memory K V E). StopsAt eq q events x.done x.steps x.replies m s) (sym is)
      (record { mid = mid; run = run; final = mid; begins = begins_none eq mid (slice_get events done); stands = stands; cause = cause })

  -- memory was wanting in an event
  pub stops_in : (m : Machine K V E T same hash) (events : List (Event K V E)) (stop : Memory K V E) (done steps : ℕ) (replies : List (Reply K V E)) (s mid t : State K V E) (e : Event K V E)
      → stop ≡ record { done = done; steps = steps; replies = replies } → Run eq (IsLawful eq) s (take done events) replies mid → slice_get events done ≡ Some e
      → ((k n : ℕ) → Goings eq Any k mid n t → Goings eq (IsLawful eq) k mid n t) → BeginsEvent eq Any mid (Some e) steps t → MachineIs eq q m t → MayStopIn t e
      → StopsAt eq q events stop.done stop.steps stop.replies m s
  stops_in m events stop done steps replies s mid t e is run next lawful begins stands takes =
      subst (λ (x : Memory K V E). StopsAt eq q events x.done x.steps x.replies m s) (sym is)
      (record {
        mid = mid;
        run = run;
        final = t;
        begins = subst (λ (o : Option (Event K V E)). BeginsEvent eq (IsLawful eq) mid o steps t) (sym next) (begins_lawful eq mid t e steps lawful begins);
        stands = stands;
        cause = In_event e next takes;
      })
