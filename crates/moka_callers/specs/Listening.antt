-- Notices by what they tell, and the locks that are held while they are heard.
use Rattle.std.specs.Prelude.{◌≡◌, ℕ, Bool, List, ◌∷◌, Option, Some}
use Rattle.moka_hist.specs.Plan.{Item}
use Rattle.moka_hist.specs.Plan as plan
use Rattle.moka_hist.specs.Run.{IsReached}
use Rattle.moka_hist.specs.State.{Call, State}
use Rattle.moka_hist.specs.Step.{Step}
use Rattle.moka_hist.specs.Visits.{cause_of}
use Rattle.moka_hist.specs.declared.accesses.Turn.{Turn}
use Rattle.moka_hist.specs.declared.notices.Notice.{Notice}
use Rattle.moka_hist.specs.declared.records.Stored.{Stored}
use Rattle.moka_hist.specs.declared.rules.Cause.{Cause}
use Rattle.moka_laws.specs.Starting.{Leads}

-- The notice of this number is listed with this key, value and cause.
pub record IsListed {K V E : Type 0} (s : State K V E) (n : ℕ) (at : K) (told : V) (why : Cause)
    : Type 0 where
  pub notice : Notice K V
  pub listed : s.world.desk.notices n ≡ Some notice
  pub number : notice.number ≡ n
  pub key : notice.key ≡ at
  pub value : notice.value ≡ told
  pub cause : notice.cause ≡ why

-- whatever events follow, a notice is listed with the key, value and cause with which its step
-- opened or skipped it
abbrev pub NoticesStandAsOpened : (K V E : Type 0) → (K → K → Bool) → Type 0
NoticesStandAsOpened K V E eq =
    (s t u : State K V E) (n : ℕ) (c : Call K V E) (key : K) (old : Stored V)
    (cause : Option Cause) (upsert : Bool) (rest : List (Item K V E)) (turn : Turn K V E) →
    IsReached eq s → s.calls n ≡ Some c → c.plan ≡ plan.Notice key old cause upsert ∷ rest →
    Step eq s n turn t → Leads eq t u →
    IsListed u n key old.value (cause_of s.world.desk old.stamp old.modified cause upsert)

-- in every reached state a call that hears its own notice holds the lock of that notice's key
abbrev pub NoticesAreLocked : (K V E : Type 0) → (K → K → Bool) → Type 0
NoticesAreLocked K V E eq =
    (s : State K V E) (n : ℕ) (c : Call K V E) (rest : List (Item K V E)) (notice : Notice K V) →
    IsReached eq s → s.calls n ≡ Some c → c.plan ≡ plan.Heard ∷ rest →
    s.world.desk.notices n ≡ Some notice → s.world.desk.locked n ≡ Some notice.key
