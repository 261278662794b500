-- What holds in every state of a run.
use Rattle.std.specs.Prelude.{◌↔◌, ℕ, Bool, List, [], ◌∷◌, ◌++◌}
use Rattle.moka_hist.specs.State.{State}
use Rattle.moka_hist.specs.Run.{Goings, Happens, Run, Any, IsReached}
use Rattle.moka_hist.specs.Places.{IsLawful}
use Rattle.moka_hist.specs.declared.events.Event.{Event}
use Rattle.moka_hist.specs.declared.replies.Reply.{Reply}

-- every reached state is lawful
abbrev pub ReachedIsLawful : (K V E : Type 0) → (K → K → Bool) → Type 0
ReachedIsLawful K V E eq = (s : State K V E) → IsReached eq s → IsLawful eq s

-- the steps of one call on a reached state go through lawful states
abbrev pub StepsAreLawful : (K V E : Type 0) → (K → K → Bool) → Type 0
StepsAreLawful K V E eq =
    (k : ℕ) (s t : State K V E) (n : ℕ) → IsReached eq s →
    Goings eq Any k s n t ↔ Goings eq (IsLawful eq) k s n t

-- an event on a reached state goes through lawful states
abbrev pub EventIsLawful : (K V E : Type 0) → (K → K → Bool) → Type 0
EventIsLawful K V E eq =
    (s t : State K V E) (e : Event K V E) (r : Reply K V E) → IsReached eq s →
    Happens eq Any s e r t ↔ Happens eq (IsLawful eq) s e r t

-- a run from a reached state goes through lawful states
abbrev pub RunIsLawful : (K V E : Type 0) → (K → K → Bool) → Type 0
RunIsLawful K V E eq =
    (s t : State K V E) (es : List (Event K V E)) (rs : List (Reply K V E)) → IsReached eq s →
    Run eq Any s es rs t ↔ Run eq (IsLawful eq) s es rs t

-- a run through lawful states goes on by one event at its end, through lawful states
abbrev pub LawfulRunGoesOn : (K V E : Type 0) → (K → K → Bool) → Type 0
LawfulRunGoesOn K V E eq =
    (s m t : State K V E) (es : List (Event K V E)) (rs : List (Reply K V E)) (e : Event K V E)
    (r : Reply K V E) →
    Run eq (IsLawful eq) s es rs m → Happens eq (IsLawful eq) m e r t → IsLawful eq t →
    Run eq (IsLawful eq) s (es ++ e ∷ []) (rs ++ r ∷ []) t
