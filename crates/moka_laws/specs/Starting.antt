-- A call from its start on.
use Rattle.std.specs.Prelude.{◌≡◌, ◌≢◌, ℕ, ◌+◌, Bool, List, Some}
use Rattle.moka_hist.specs.State.{Call, State}
use Rattle.moka_hist.specs.Step.{Step}
use Rattle.moka_hist.specs.Run.{Happens, Run, Any, IsReached}
use Rattle.moka_hist.specs.declared.accesses.Turn.{Turn}
use Rattle.moka_hist.specs.declared.events.Event.{Event}
use Rattle.moka_hist.specs.declared.events.Event.TheVariants as event
use Rattle.moka_hist.specs.declared.events.Start.{Start}
use Rattle.moka_hist.specs.declared.replies.Reply.{Reply}
use Rattle.moka_hist.specs.declared.replies.Reply.TheVariants as reply

-- some events lead from the first state to the second
pub record Leads {K V E : Type 0} (eq : K → K → Bool) (s t : State K V E) : Type 0 where
  pub events : List (Event K V E)
  pub replies : List (Reply K V E)
  pub run : Run eq Any s events replies t

-- the event neither steps nor polls the call of this number
abbrev pub LeavesAlone : {K V E : Type 0} → ℕ → Event K V E → Type 0
LeavesAlone n (event.Step call) = call ≢ n
LeavesAlone n (event.Poll call) = call ≢ n
LeavesAlone n (event.At moment) = Unit {0}
LeavesAlone n (event.Start start) = Unit {0}
LeavesAlone n (event.Tell call answer) = Unit {0}
LeavesAlone n (event.Drop call) = Unit {0}

-- The way from the first state to the second by steps of the live call of this number, and by
-- events between them that leave it alone; and how often something has happened at those steps,
-- where `often` says so of each.
pub data Way {K V E : Type 0} (eq : K → K → Bool) (n : ℕ) (often : State K V E → Call K V E → ℕ) :
    ℕ → State K V E → State K V E → Type 0 where
  Begins : (s : State K V E) → Way eq n often 0 s s
  Steps : (k : ℕ) (s u v : State K V E) (c : Call K V E) (reply : Turn K V E) →
      Way eq n often k s u → u.calls n ≡ Some c → Step eq u n reply v →
      Way eq n often (k + often u c) s v
  Others : (k : ℕ) (s u v : State K V E) (e : Event K V E) (r : Reply K V E) →
      Way eq n often k s u → LeavesAlone n e → Happens eq Any u e r v → Way eq n often k s v

-- the call of this number was started for this on a reached state, and then some events led here
pub record WasStarted {K V E : Type 0} (eq : K → K → Bool) (start : Start K V) (n : ℕ)
    (s : State K V E) : Type 0 where
  pub before : State K V E
  pub reached : IsReached eq before
  pub begun : State K V E
  pub begins : Happens eq Any before (event.Start start) (reply.Call n) begun
  pub led : Leads eq begun s

-- A step that the live call made on the way to this state, and what it was.
pub record HasMade {K V E : Type 0} (eq : K → K → Bool) (s : State K V E) (n : ℕ)
    (What : State K V E → Call K V E → Turn K V E → State K V E → Type 0) : Type 0 where
  pub before : State K V E
  pub reached : IsReached eq before
  pub call : Call K V E
  pub live : before.calls n ≡ Some call
  pub turn : Turn K V E
  pub after : State K V E
  pub step : Step eq before n turn after
  pub what : What before call turn after
  pub led : Leads eq after s
