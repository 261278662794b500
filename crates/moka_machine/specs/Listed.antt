-- What the lists of a machine tell of its state.
use Rattle.std.specs.Prelude.{◌≡◌, ℕ, List, ◌++◌, map, Option, Some, None, nat_eq, IsPermutation, IsSortedByKey}
use Rattle.std.specs.Option.{option_map}
use Rattle.std.specs.Ordering.{nat_cmp}
use Rattle.std.specs.List.{filter_map}
use Rattle.moka_hist.specs.Finite.{Lists}
use Rattle.moka_hist.specs.State.{Call, DeskPart, State}
use Rattle.moka_hist.specs.Plan.{held_by}
use Rattle.moka_hist.specs.Visits.{number_of, cause_of}
use Rattle.moka_hist.specs.declared.notices.Notice.{Notice}
use Rattle.moka_hist.specs.declared.notices.NoticeState.TheVariants as notice
use Rattle.moka_hist.specs.declared.predicates.Registered.{Registered}
use Rattle.moka_hist.specs.declared.visits.Visit.{Visit}
use Rattle.moka_hist.specs.declared.visits.Visit.TheVariants as visit
use Rattle.moka_machine.specs.Calls.{opening_of}
use Rattle.moka_hist.specs.declared.writes.Place.{Place}
use Rattle.moka_hist.specs.declared.writes.Place.TheVariants as place

-- each of the numbers, with the place where its write stands
abbrev pub at_place : Place → List ℕ → List (ℕ × Place)
at_place p numbers = map (λ n. (n, p)) numbers

module _ {K V E : Type 0} where
  -- the number of the write that the call holds
  abbrev pub held_number : ℕ × Call K V E → Option ℕ
  held_number c = option_map number_of (held_by c.1.plan)

  -- the numbers are those of the writes that the live calls hold
  pub record AreHeld (numbers : List ℕ) (live : ℕ → Option (Call K V E)) : Type 0 where
    pub calls : List (ℕ × Call K V E)
    pub lists : Lists nat_eq calls live
    pub are : numbers ≡ filter_map held_number calls

  -- the writes of the state, with their places: applied, logged, owed, held by one of these calls
  abbrev pub all_places : List (ℕ × Call K V E) → State K V E → List (ℕ × Place)
  all_places calls s =
      at_place place.Applied (map number_of s.world.desk.applied)
      ++ at_place place.Logged (map number_of s.world.desk.log)
      ++ at_place place.Owed (map (λ o. number_of o.write) s.world.desk.owed)
      ++ at_place place.Held (filter_map held_number calls)

  -- the list has each write of the state, once for each place where it stands, ascending by number
  pub record ArePlaces (places : List (ℕ × Place)) (s : State K V E) : Type 0 where
    pub calls : List (ℕ × Call K V E)
    pub live : Lists nat_eq calls s.calls
    pub all : IsPermutation (all_places calls s) places
    pub ascending : IsSortedByKey (λ p. p.0) nat_cmp places

  -- the notices that were opened, in the order in which they were
  abbrev pub opened_in : DeskPart K V E → List (Notice K V)
  opened_in w = filter_map w.notices w.opened

  -- the notice that the visit is to open, as it waits: with the cause that it would be opened with
  -- now; no other visit opens one
  abbrev pub waiting : DeskPart K V E → Visit K V E → Option (Notice K V)
  waiting w (visit.OpenNotice call key value stamp modified cause upsert) =
      Some (record {
        number = call;
        key = key;
        value = value;
        cause = cause_of w stamp modified cause upsert;
        state = notice.Waiting;
      })
  waiting w _ = None

  -- the notices of the state: those that were opened, and those of these calls that are due
  abbrev pub all_notices : List (ℕ × Call K V E) → State K V E → List (Notice K V)
  all_notices calls s =
      opened_in s.world.desk ++ filter_map (waiting s.world.desk) (filter_map opening_of calls)

  -- the list has each notice of the state, once, ascending by number
  pub record AreNotices (notices : List (Notice K V)) (s : State K V E) : Type 0 where
    pub calls : List (ℕ × Call K V E)
    pub live : Lists nat_eq calls s.calls
    pub all : IsPermutation (all_notices calls s) notices
    pub ascending : IsSortedByKey (λ x. x.number) nat_cmp notices

-- the number of the predicate that was registered, and when it was
abbrev pub test_of : Registered → ℕ × ℕ
test_of r = (r.test, r.moment)

-- the predicates of the state, in the order of registering
abbrev pub tests_in : {K V E : Type 0} → DeskPart K V E → List (ℕ × ℕ)
tests_in w = map test_of w.registered
