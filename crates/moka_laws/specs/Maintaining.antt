-- What maintenance does that no other call disturbs.
use Rattle.std.specs.Prelude.{◌≡◌, ℕ, Bool, [], Contains, map, Some}
use Rattle.moka_hist.specs.Finite.{times}
use Rattle.moka_hist.specs.Run.{Any, Happens, IsReached, fresh_call}
use Rattle.moka_hist.specs.State.{State}
use Rattle.moka_hist.specs.Step.{Step}
use Rattle.moka_hist.specs.Visits.{number_of}
use Rattle.moka_hist.specs.declared.accesses.Turn.{Turn}
use Rattle.moka_hist.specs.declared.accesses.Turn.TheVariants as turn
use Rattle.moka_hist.specs.declared.events.Event.{Event}
use Rattle.moka_hist.specs.declared.events.Event.TheVariants as event
use Rattle.moka_hist.specs.declared.events.Start.TheVariants as start
use Rattle.moka_hist.specs.declared.replies.Answer.{Answer}
use Rattle.moka_hist.specs.declared.replies.Reply.{Reply}
use Rattle.moka_hist.specs.declared.writes.Write.{Write}

-- the event starts a call, moves the clock on, or tells an ask
abbrev pub IsAside : {K V E : Type 0} → Event K V E → Type 0
IsAside (event.Step call) = ⊥
IsAside (event.Poll call) = ⊥
IsAside (event.Drop call) = ⊥
IsAside (event.At moment) = Unit {0}
IsAside (event.Start start) = Unit {0}
IsAside (event.Tell call answer) = Unit {0}

-- The call of this number goes on until it answers: no other call makes a step or is dropped in
-- between.
pub data RunsAlone {K V E : Type 0} (eq : K → K → Bool) (n : ℕ) : State K V E → State K V E → Type 0
  where
    Answers : (s t : State K V E) (answer : Answer K V E) → Step eq s n (turn.Answer answer) t →
        RunsAlone eq n s t
    Goes : (s t u : State K V E) (reply : Turn K V E) → Step eq s n reply t → RunsAlone eq n t u →
        RunsAlone eq n s u
    Others : (s t u : State K V E) (e : Event K V E) (r : Reply K V E) → IsAside e →
        Happens eq Any s e r t → RunsAlone eq n t u → RunsAlone eq n s u

-- Maintenance that runs alone leaves nothing owed, and what was owed before it is applied, once.
abbrev pub MaintenanceDrains : (K V E : Type 0) → (K → K → Bool) → Type 0
MaintenanceDrains K V E eq =
    (s t : State K V E) (n : ℕ) →
    IsReached eq s → s.calls n ≡ Some
    (fresh_call s.world.table.division.parts s.world.desk.rules start.Pending) →
    RunsAlone eq n s t →
    (t.world.desk.owed ≡ []) ×
    ((write : Write) → Contains (map (λ o. o.write) s.world.desk.owed) write →
    times (number_of write) (map number_of t.world.desk.applied) ≡ 1)
