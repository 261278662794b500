-- What a run of events on a machine answers.
use Rattle.std.specs.Prelude.{◌≡◌, ℕ, Bool, List, [], ◌∷◌, ◌++◌, length, take, Option, Some, None, slice_get}
use Rattle.std.specs.declared.cmp.PartialEq as PartialEq
use Rattle.std.specs.declared.hash.Hash as Hash
use Rattle.moka_hist.specs.State.{State}
use Rattle.moka_hist.specs.Places.{IsLawful}
use Rattle.moka_hist.specs.Run.{Run}
use Rattle.moka_hist.specs.declared.events.Event.{Event}
use Rattle.moka_hist.specs.declared.events.Event.TheVariants as event
use Rattle.moka_hist.specs.declared.events.Told.{Told}
use Rattle.moka_hist.specs.declared.replies.Reply.{Reply}
use Rattle.moka_hist.specs.declared.record_tests.Tests as Tests
use Rattle.moka_machine.specs.Machine.{MachineIs, BeginsEvent}
use Rattle.moka_machine.specs.WantOfMemory.{MayStopIn}
use Rattle.moka_machine.specs.declared.machine.Machine.{Machine}

-- The headline: from each reached state that the machine stood for these replies answer the events
-- in order, one for each, by a run of the reference cache through lawful states to a state that the
-- machine stands for now.
pub record Answers {K V E T : Type 0} {same : PartialEq.Ghosts K} {hash : Hash.Ghosts K}
    (eq : K → K → Bool) (q : Tests.Ghosts T K V) (events : List (Event K V E))
    (replies : List (Reply K V E))
    (new : Machine K V E T same hash) (s : State K V E) : Type 0 where
  pub final : State K V E
  pub run : Run eq (IsLawful eq) s events replies final
  pub stands : MachineIs eq q new final

-- The answer that an event tells, if it tells one, and the answers that all events tell, in order.
module _ {K V E : Type 0} where
  abbrev pub told_by : Event K V E → List (Told V E)
  told_by (event.At moment) = []
  told_by (event.Start start) = []
  told_by (event.Step n) = []
  told_by (event.Poll n) = []
  told_by (event.Tell n answer) = answer ∷ []
  told_by (event.Drop n) = []

  abbrev pub told_in : List (Event K V E) → List (Told V E)
  told_in [] = []
  told_in (e ∷ es) = told_by e ++ told_in es

  -- the number of the ask that the event answers, if it tells
  abbrev pub asked_in : Event K V E → Option ℕ
  asked_in (event.At moment) = None
  asked_in (event.Start start) = None
  asked_in (event.Step n) = None
  asked_in (event.Poll n) = None
  asked_in (event.Tell n answer) = Some n
  asked_in (event.Drop n) = None

  -- Why memory was wanting: at the start, for the replies and for the copies of what is told; in a
  -- start, a step or a poll that needs memory there; or after the last event, for the lists.
  pub data StopCause (events : List (Event K V E)) (done steps : ℕ) (final : State K V E)
      : Type 0 where
    At_start : done ≡ 0 → steps ≡ 0 → StopCause events done steps final
    In_event : (e : Event K V E) → slice_get events done ≡ Some e → MayStopIn final e →
        StopCause events done steps final
    For_lists : done ≡ length events → steps ≡ 0 → StopCause events done steps final

-- Memory was wanting: the first events were done, and then so many steps of the next one.
pub record StopsAt {K V E T : Type 0} {same : PartialEq.Ghosts K} {hash : Hash.Ghosts K}
    (eq : K → K → Bool) (q : Tests.Ghosts T K V) (events : List (Event K V E)) (done steps : ℕ)
    (replies : List (Reply K V E))
    (new : Machine K V E T same hash) (s : State K V E) : Type 0 where
  pub mid : State K V E
  pub run : Run eq (IsLawful eq) s (take done events) replies mid
  pub final : State K V E
  pub begins : BeginsEvent eq (IsLawful eq) mid (slice_get events done) steps final
  pub stands : MachineIs eq q new final
  pub cause : StopCause events done steps final
