-- The desk stays sound.
use Rattle.std.specs.Prelude.{ℕ, Bool, Option}
use Rattle.moka_hist.specs.State.{DeskPart, State, fresh_desk, Handed}
use Rattle.moka_hist.specs.Visits.{decided, makes}
use Rattle.moka_hist.specs.Conditions.{MayLeave, MayVisit}
use Rattle.moka_hist.specs.SoundDesk.{SoundDesk}
use Rattle.moka_hist.specs.Dropping.{left}
use Rattle.moka_hist.specs.Telling.{told}
use Rattle.moka_hist.specs.Run.{IsReached}
use Rattle.moka_hist.specs.declared.rules.Rules.{Rules}
use Rattle.moka_hist.specs.declared.events.Told.{Told}
use Rattle.moka_hist.specs.declared.visits.Visit.{Visit}
use Rattle.moka_hist.specs.declared.writes.Write.{Write}

-- a desk where nothing has happened is sound
abbrev pub FreshIsSound : (K V E : Type 0) → (K → K → Bool) → Type 0
FreshIsSound K V E eq =
    (rules : Rules) (size : ℕ) (built : Handed K V) →
    SoundDesk eq (fresh_desk K V E rules size built)

-- each visit that a sound desk allows leaves it sound
abbrev pub VisitsKeepSound : (K V E : Type 0) → (K → K → Bool) → Type 0
VisitsKeepSound K V E eq =
    (w : DeskPart K V E) (made : Visit K V E) → SoundDesk eq w → MayVisit w made →
    SoundDesk eq (makes eq w made)

-- so does a call that leaves, with no write but one that it holds
abbrev pub LeavingKeepsSound : (K V E : Type 0) → (K → K → Bool) → Type 0
LeavingKeepsSound K V E eq =
    (w : DeskPart K V E) (call : ℕ) (held : Option Write) → SoundDesk eq w → MayLeave w call held →
    SoundDesk eq (left w call held)

-- so does a write that is decided, an answer that is told, a number that is given out, and a clock
-- that moves on
abbrev pub DecidingKeepsSound : (K V E : Type 0) → (K → K → Bool) → Type 0
DecidingKeepsSound K V E eq =
    (w : DeskPart K V E) (call : ℕ) → SoundDesk eq w → SoundDesk eq (decided w call)

abbrev pub TellingKeepsSound : (K V E : Type 0) → (K → K → Bool) → Type 0
TellingKeepsSound K V E eq =
    (w : DeskPart K V E) (call : ℕ) (given : Told V E) → SoundDesk eq w →
    SoundDesk eq (told w call given)

abbrev pub EnteringKeepsSound : (K V E : Type 0) → (K → K → Bool) → Type 0
EnteringKeepsSound K V E eq =
    (w : DeskPart K V E) (n : ℕ) → SoundDesk eq w → SoundDesk eq (record w { last = n })

abbrev pub ClockKeepsSound : (K V E : Type 0) → (K → K → Bool) → Type 0
ClockKeepsSound K V E eq =
    (w : DeskPart K V E) (moment : ℕ) → SoundDesk eq w → SoundDesk eq (record w { clock = moment })

-- in every reached state the desk is sound
abbrev pub ReachedIsSound : (K V E : Type 0) → (K → K → Bool) → Type 0
ReachedIsSound K V E eq = (s : State K V E) → IsReached eq s → SoundDesk eq s.world.desk
