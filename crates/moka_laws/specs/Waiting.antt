-- When a step waits.
use Rattle.std.specs.Prelude.{◌≡◌, ◌≢◌, ◌↔◌, ℕ, Bool, List, [], ◌∷◌, Some}
use Rattle.moka_hist.specs.Finite.{put_at}
use Rattle.moka_hist.specs.State.{Call, State}
use Rattle.moka_hist.specs.Plan.{Item}
use Rattle.moka_hist.specs.Step.{Step}
use Rattle.moka_hist.specs.Run.{IsReached}
use Rattle.moka_hist.specs.Missing.{IsMissing}
use Rattle.moka_hist.specs.declared.records.Mode.TheVariants as mode
use Rattle.moka_hist.specs.declared.accesses.Turn.{Turn}
use Rattle.moka_hist.specs.declared.accesses.Turn.TheVariants as turn

-- in every reached state each live call has still something to do
abbrev pub LiveCallsGoOn : (K V E : Type 0) → (K → K → Bool) → Type 0
LiveCallsGoOn K V E eq =
    (s : State K V E) (n : ℕ) (c : Call K V E) → IsReached eq s → s.calls n ≡ Some c → c.plan ≢ []

module _ {K V E : Type 0} where
  -- the state with the call parked
  abbrev pub parked : State K V E → ℕ → Call K V E → State K V E
  parked s n c = record s { calls = put_at s.calls n (Some (record c { mode = mode.Parked })) }

  -- The step waits exactly where what the item needs is missing, and then nothing changes but that
  -- the call is parked.
  pub record WaitsFor (s : State K V E) (n : ℕ) (c : Call K V E) (item : Item K V E)
      (reply : Turn K V E) (new : State K V E) : Type 0 where
    pub cause : (reply ≡ turn.Wait) ↔ IsMissing s.world.desk n item
    pub parks : reply ≡ turn.Wait → new ≡ parked s n c

-- on a reached state each step of a live call waits for what its first item needs, and for nothing
-- else
abbrev pub WaitsByCause : (K V E : Type 0) → (K → K → Bool) → Type 0
WaitsByCause K V E eq =
    (s t : State K V E) (n : ℕ) (c : Call K V E) (item : Item K V E) (rest : List (Item K V E))
    (reply : Turn K V E) →
    IsReached eq s → s.calls n ≡ Some c → c.plan ≡ item ∷ rest → Step eq s n reply t →
    WaitsFor s n c item reply t
