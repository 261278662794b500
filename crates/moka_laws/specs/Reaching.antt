-- Which states a run can reach, and how a run goes on.
use Rattle.std.specs.Prelude.{◌≡◌, ℕ, ◌<◌, Bool, List, [], ◌∷◌, ◌++◌, Some}
use Rattle.moka_hist.specs.State.{Call, Division, State, fresh, Handed}
use Rattle.moka_hist.specs.Step.{Step}
use Rattle.moka_hist.specs.Run.{Divides, Goings, Happens, Run, Any, IsReached}
use Rattle.moka_hist.specs.declared.rules.Rules.{Rules}
use Rattle.moka_hist.specs.declared.events.Event.{Event}
use Rattle.moka_hist.specs.declared.events.Start.{Start}
use Rattle.moka_hist.specs.declared.replies.Reply.{Reply}
use Rattle.moka_hist.specs.declared.accesses.Turn.{Turn}
use Rattle.moka_laws.specs.Starting.{Leads, Way, WasStarted}

-- a fresh cache of any division of its keys and any rules is reached, with a log of any size but none
abbrev pub FreshIsReached : (K V E : Type 0) → (K → K → Bool) → Type 0
FreshIsReached K V E eq =
    (division : Division K) → Divides eq division →
    (rules : Rules) (size : ℕ) (built : Handed K V) → 0 < size →
    IsReached eq (fresh K V E division rules size built)

-- what an event leaves of a reached state is reached
abbrev pub ReachedByEvent : (K V E : Type 0) → (K → K → Bool) → Type 0
ReachedByEvent K V E eq =
    (s t : State K V E) (e : Event K V E) (r : Reply K V E) → IsReached eq s →
    Happens eq Any s e r t → IsReached eq t

-- what a step leaves of a reached state is reached
abbrev pub ReachedByStep : (K V E : Type 0) → (K → K → Bool) → Type 0
ReachedByStep K V E eq =
    (s t : State K V E) (n : ℕ) (turn : Turn K V E) → IsReached eq s → Step eq s n turn t →
    IsReached eq t

-- what steps of one call leave of a reached state is reached
abbrev pub ReachedBySteps : (K V E : Type 0) → (K → K → Bool) → Type 0
ReachedBySteps K V E eq =
    (k : ℕ) (s t : State K V E) (n : ℕ) → IsReached eq s → Goings eq Any k s n t → IsReached eq t

-- what a run leaves of a reached state is reached
abbrev pub ReachedByRun : (K V E : Type 0) → (K → K → Bool) → Type 0
ReachedByRun K V E eq =
    (s t : State K V E) (es : List (Event K V E)) (rs : List (Reply K V E)) →
    IsReached eq s → Run eq Any s es rs t → IsReached eq t

-- every live call of a reached state was started
abbrev pub LiveWasStarted : (K V E : Type 0) → (K → K → Bool) → Type 0
LiveWasStarted K V E eq =
    (s : State K V E) (n : ℕ) (c : Call K V E) → IsReached eq s → s.calls n ≡ Some c →
    (start : Start K V) × WasStarted eq start n s

-- a run goes on by one event at its end
abbrev pub RunGoesOn : (K V E : Type 0) → (K → K → Bool) → Type 0
RunGoesOn K V E eq =
    (s m t : State K V E) (es : List (Event K V E)) (rs : List (Reply K V E)) (e : Event K V E)
    (r : Reply K V E) →
    Run eq Any s es rs m → Happens eq Any m e r t → Run eq Any s (es ++ e ∷ []) (rs ++ r ∷ []) t

-- whatever leads from one state to another is a way of the steps of a call and of what leaves it
-- alone, however often something happens at those steps
abbrev pub RunsAreWays : (K V E : Type 0) → (K → K → Bool) → Type 0
RunsAreWays K V E eq =
    (s t : State K V E) (n : ℕ) (often : State K V E → Call K V E → ℕ) → Leads eq s t →
    (k : ℕ) × Way eq n often k s t
