-- What a run is made of.
use Rattle.std.specs.Prelude.{◌≡◌, ◌≢◌, ◌⊎◌, ℕ, Bool, List, [], ◌∷◌, ◌++◌, replicate, Some}
use Rattle.moka_hist.specs.State.{Call, State}
use Rattle.moka_hist.specs.Step.{Step}
use Rattle.moka_hist.specs.Run.{Any, Goings, Happens, IsReached, Run, reply_of}
use Rattle.moka_hist.specs.declared.accesses.Turn.{Turn}
use Rattle.moka_hist.specs.declared.events.Event.{Event}
use Rattle.moka_hist.specs.declared.events.Event.TheVariants as event
use Rattle.moka_hist.specs.declared.replies.Reply.{Reply}
use Rattle.moka_hist.specs.declared.replies.Reply.TheVariants as reply

-- The replies are those to the first events, and then those to the others, with a state between.
pub record Splits {K V E : Type 0} (eq : K → K → Bool) (s : State K V E) (es fs : List (Event K V E))
    (replies : List (Reply K V E)) (t : State K V E) : Type 0 where
  pub first : List (Reply K V E)
  pub then : List (Reply K V E)
  pub whole : replies ≡ first ++ then
  pub mid : State K V E
  pub begins : Run eq Any s es first mid
  pub goes_on : Run eq Any mid fs then t

-- a run on two lists of events is a run on the first, and one on the second
abbrev pub RunSplits : (K V E : Type 0) → (K → K → Bool) → Type 0
RunSplits K V E eq =
    (s t : State K V E) (es fs : List (Event K V E)) (replies : List (Reply K V E)) →
    Run eq Any s (es ++ fs) replies t → Splits eq s es fs replies t

-- a run, and one that begins where it ends, are a run on the events of both
abbrev pub RunsJoin : (K V E : Type 0) → (K → K → Bool) → Type 0
RunsJoin K V E eq =
    (s mid t : State K V E) (es fs : List (Event K V E)) (first then : List (Reply K V E)) →
    Run eq Any s es first mid → Run eq Any mid fs then t → Run eq Any s (es ++ fs) (first ++ then) t

-- The reply is that of a step of the call, which went on from here by steps that left it going.
pub record IsLastStep {K V E : Type 0} (eq : K → K → Bool) (s : State K V E) (n : ℕ)
    (r : Reply K V E) (t : State K V E) : Type 0 where
  pub going : ℕ
  pub before : State K V E
  pub goes : Goings eq Any going s n before
  pub reached : IsReached eq before
  pub turn : Turn K V E
  pub step : Step eq before n turn t
  pub reply : r ≡ reply_of turn

-- on a reached state a poll, or a step, of a live call replies what the last of its steps does
abbrev pub RepliesAreSteps : (K V E : Type 0) → (K → K → Bool) → Type 0
RepliesAreSteps K V E eq =
    (s t : State K V E) (n : ℕ) (c : Call K V E) (e : Event K V E) (r : Reply K V E) →
    IsReached eq s → s.calls n ≡ Some c → (e ≡ event.Poll n) ⊎ (e ≡ event.Step n) →
    Happens eq Any s e r t → IsLastStep eq s n r t

-- The replies are those of so many steps of the call and one more: all but the last are that the
-- call goes on, and the last is another.
pub record AreSteps {K V E : Type 0} (eq : K → K → Bool) (s : State K V E) (n : ℕ)
    (r : Reply K V E) (t : State K V E) : Type 0 where
  pub going : ℕ
  pub run : Run eq Any s (replicate going (event.Step n) ++ event.Step n ∷ [])
      (replicate going reply.Going ++ r ∷ []) t
  pub ends : r ≢ reply.Going

-- a poll of a live call is a run of steps of that call
abbrev pub PollsAreSteps : (K V E : Type 0) → (K → K → Bool) → Type 0
PollsAreSteps K V E eq =
    (s t : State K V E) (n : ℕ) (c : Call K V E) (r : Reply K V E) → s.calls n ≡ Some c →
    Happens eq Any s (event.Poll n) r t → AreSteps eq s n r t
