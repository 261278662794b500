-- The live calls of a machine, by number.
use Rattle.std.specs.Prelude.{◌≡◌, ℕ, ◌==◌, cond, List, Option, Some, None, IsSome, nat_eq}
use Rattle.std.specs.List.{filter_map}
use Rattle.std.specs.Option.{option_and_then, option_map}
use Rattle.std.specs.HashMap.{get}
use Rattle.moka_init.specs.FlowPlan.{call_of, due_of, opening}
use Rattle.moka_hist.specs.Finite.{Lists}
use Rattle.moka_hist.specs.State.{Call}
use Rattle.moka_hist.specs.declared.visits.Visit.{Visit}
use Rattle.moka_hist.specs.Plan.{held_by}
use Rattle.moka_hist.specs.Visits.{number_of}
use Rattle.moka_machine.specs.declared.calls.Calls.{Calls}
use Rattle.moka_machine.specs.declared.call_places.Running.{Running}

module _ {K V E : Type 0} where
  -- what the number has: no place, an empty one, or one in which a call runs
  abbrev pub place_at : Calls K V E → ℕ → Option (Option (Running K V E))
  place_at calls n = cond (calls.last == n) calls.newest (get nat_eq calls.places n)

  -- the call that runs there
  abbrev pub runs_in : Option (Option (Running K V E)) → Option (Running K V E)
  runs_in place = option_and_then (λ r. r) place

  -- where there is a place a call runs in it
  abbrev pub IsUsed : Option (Option (Running K V E)) → Type 0
  IsUsed place = IsSome place → IsSome (runs_in place)

  -- the place, if there is one, once its call was taken out
  abbrev pub emptied : Option (Option (Running K V E)) → Option (Option (Running K V E))
  emptied place = option_map (λ _. None) place

  -- the running call of this number
  abbrev pub running_at : Calls K V E → ℕ → Option (Running K V E)
  running_at calls n = runs_in (place_at calls n)

  -- the number has a place, where a call runs or was taken out
  abbrev pub HasPlace : Calls K V E → ℕ → Type 0
  HasPlace calls n = IsSome (place_at calls n)

  -- the number of the write that the call of this place holds, where one runs
  abbrev pub held_in : Option (Running K V E) → Option ℕ
  held_in place = option_and_then (λ r. option_map number_of (held_by (call_of r.flow.value).plan)) place

  -- the visit that opens the notice of the call of this place, where one runs and its notice is due
  abbrev pub due_in : Option (Running K V E) → Option (Visit K V E)
  due_in place = option_and_then (λ r. due_of r.flow.value) place

  -- what this tells of the place of a number, but of that of the newest call, which stands apart
  abbrev pub of_others : {A : Type 0} → ℕ → (Option (Running K V E) → Option A)
      → ℕ × Option (Running K V E) → Option A
  of_others newest tells e = cond (e.0 == newest) None (tells e.1)

  -- the visit that opens the notice of the call of this number, where it is due
  abbrev pub opening_of : ℕ × Call K V E → Option (Visit K V E)
  opening_of c = opening c.0 c.1.plan

  -- each running call is of its number
  abbrev pub AreNumbered : (ℕ → Option (Running K V E)) → Type 0
  AreNumbered running = (n : ℕ) (r : Running K V E) → running n ≡ Some r → r.flow.value.call ≡ n

  -- the visits are those that open the notices of the live calls that are due
  pub record AreDue (visits : List (Visit K V E)) (live : ℕ → Option (Call K V E)) : Type 0 where
    pub calls : List (ℕ × Call K V E)
    pub lists : Lists nat_eq calls live
    pub are : visits ≡ filter_map opening_of calls
