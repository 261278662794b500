-- Where the answer that a call was told comes from.
use Rattle.std.specs.Prelude.{◌≡◌, ℕ, Bool, Some}
use Rattle.moka_hist.specs.State.{State}
use Rattle.moka_hist.specs.Run.{Any, Happens, IsReached}
use Rattle.moka_hist.specs.declared.events.Event.TheVariants as event
use Rattle.moka_hist.specs.declared.events.Told.{Told}
use Rattle.moka_hist.specs.declared.replies.Reply.TheVariants as reply
use Rattle.moka_laws.specs.Starting.{Leads}

-- On a reached state an event told the answer to the open ask of this number, and then some events
-- led here.
pub record WasTold {K V E : Type 0} (eq : K → K → Bool) (s : State K V E) (n : ℕ)
    (given : Told V E) : Type 0 where
  pub before : State K V E
  pub reached : IsReached eq before
  pub after : State K V E
  pub told : Happens eq Any before (event.Tell n given) reply.Told after
  pub led : Leads eq after s

-- in every reached state an answer that a call has still to take was told it by an event
abbrev pub ToldWasTold : (K V E : Type 0) → (K → K → Bool) → Type 0
ToldWasTold K V E eq =
    (s : State K V E) (n : ℕ) (given : Told V E) → IsReached eq s →
    s.world.desk.told n ≡ Some given → WasTold eq s n given
