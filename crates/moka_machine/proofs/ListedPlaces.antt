-- The places of a report, joined.
use Rattle.std.proofs.Common.{◌≡◌, ℕ, List, [], ◌++◌, map, refl}
use Rattle.std.specs.List.{filter_map}
use Rattle.moka_hist.specs.State.{Call, State}
use Rattle.moka_hist.specs.Visits.{number_of}
use Rattle.moka_hist.specs.declared.writes.Place.{Place}
use Rattle.moka_hist.specs.declared.writes.Place.TheVariants as place
use Rattle.moka_hist.specs.declared.writes.Owed.{Owed}
use Rattle.moka_hist.specs.declared.writes.Write.{Write}
use Rattle.moka_machine.specs.Listed.{at_place, held_number, all_places}

-- the four lists, one after the other, are all places
pub places_joined : {K V E : Type 0} (calls : List (ℕ × Call K V E)) (s : State K V E) (none first second third fourth : List (ℕ × Place)) (numbers : List ℕ) (owed : List Owed) (log applied : List Write)
    → none ≡ [] → first ≡ none ++ at_place place.Applied (map number_of applied) → applied ≡ s.world.desk.applied
    → second ≡ first ++ at_place place.Logged (map number_of log) → log ≡ s.world.desk.log
    → third ≡ second ++ at_place place.Owed (map (λ o. number_of o.write) owed) → owed ≡ s.world.desk.owed
    → fourth ≡ third ++ at_place place.Held numbers → numbers ≡ filter_map held_number calls
    → fourth ≡ all_places calls s
places_joined calls s none first second third fourth numbers owed log applied en e1 ea e2 el e3 eo e4 eh =
    rw (e4, e3, e2, e1, en, ea, el, eo, eh) refl
