-- What becomes of the write of a call that has answered.
use Rattle.std.specs.Prelude.{◌≡◌, ◌⊎◌, ℕ, Bool, true, false, List, Contains}
use Rattle.moka_hist.specs.State.{State}
use Rattle.moka_hist.specs.Plan.{is_disabled}
use Rattle.moka_hist.specs.Step.{Step}
use Rattle.moka_hist.specs.Run.{Run, IsReached}
use Rattle.moka_hist.specs.Places.{IsLawful, StandsAt}
use Rattle.moka_laws.specs.Starts.{says_stored}
use Rattle.moka_hist.specs.declared.accesses.Turn.TheVariants as turn
use Rattle.moka_hist.specs.declared.events.Event.{Event}
use Rattle.moka_hist.specs.declared.events.Start.{Start}
use Rattle.moka_hist.specs.declared.replies.Answer.{Answer}
use Rattle.moka_hist.specs.declared.replies.Reply.{Reply}
use Rattle.moka_hist.specs.declared.writes.Place.TheVariants as place
use Rattle.moka_laws.specs.Starting.{WasStarted}

-- the write of this number is in the log, or applied
abbrev pub IsPosted : {K V E : Type 0} → State K V E → ℕ → Type 0
IsPosted s n = StandsAt s place.Logged n ⊎ StandsAt s place.Applied n

-- a call whose answer says that it has stored a value has committed its write, unless the cache is
-- disabled
abbrev pub StoredIsCommitted : (K V E : Type 0) → (K → K → Bool) → Type 0
StoredIsCommitted K V E eq =
    (s t : State K V E) (start : Start K V) (n : ℕ) (a : Answer K V E) → WasStarted eq start n s →
    is_disabled s.world.desk.rules ≡ false → Step eq s n (turn.Answer a) t → says_stored start a ≡
    true →
    Contains t.world.table.committed n

-- where a call answers that has committed a write, that is logged or applied
abbrev pub AnsweredIsPosted : (K V E : Type 0) → (K → K → Bool) → Type 0
AnsweredIsPosted K V E eq =
    (s t : State K V E) (n : ℕ) (a : Answer K V E) → IsReached eq s →
    Step eq s n (turn.Answer a) t → Contains t.world.table.committed n → IsPosted t n

-- a write that is logged or applied stays so
abbrev pub PostedStays : (K V E : Type 0) → (K → K → Bool) → Type 0
PostedStays K V E eq =
    (s t : State K V E) (es : List (Event K V E)) (rs : List (Reply K V E)) (n : ℕ) →
    IsReached eq s → Run eq (IsLawful eq) s es rs t → IsPosted s n → IsPosted t n
