-- The writes that calls hold, as the desk knows them.
use Rattle.std.specs.Prelude.{◌≡◌, ℕ, Bool, Some}
use Rattle.moka_hist.specs.Conditions.{MayLeave}
use Rattle.moka_hist.specs.Plan.{held_by}
use Rattle.moka_hist.specs.State.{Call, State}
use Rattle.moka_hist.specs.Run.{IsReached}
use Rattle.moka_hist.specs.Places.{HeldAreKnown}

-- in every reached state the desk knows each write that a live call holds
abbrev pub DeskKnowsHeld : (K V E : Type 0) → (K → K → Bool) → Type 0
DeskKnowsHeld K V E eq = (s : State K V E) → IsReached eq s → HeldAreKnown s

-- each live call may leave the write that it holds, if any
abbrev pub MayAllLeave : {K V E : Type 0} → State K V E → Type 0
MayAllLeave {K} {V} {E} s =
    (n : ℕ) (c : Call K V E) → s.calls n ≡ Some c → MayLeave s.world.desk n (held_by c.plan)

-- in every reached state they may
abbrev pub CallsMayLeave : (K V E : Type 0) → (K → K → Bool) → Type 0
CallsMayLeave K V E eq = (s : State K V E) → IsReached eq s → MayAllLeave s
