-- What a call gives that is stepped with no step of others between.
use Rattle.std.specs.Prelude.{◌≡◌, ℕ, ◌+◌, Bool, true, false, Some}
use Rattle.moka_hist.specs.Plan.{is_disabled}
use Rattle.moka_hist.specs.State.{State}
use Rattle.moka_hist.specs.Step.{Step}
use Rattle.moka_hist.specs.Run.{Goings, Any, IsReached, started, fresh_call}
use Rattle.moka_hist.specs.declared.accesses.Turn.TheVariants as turn
use Rattle.moka_hist.specs.declared.events.Start.TheVariants as start
use Rattle.moka_hist.specs.declared.records.Stored.{Stored}
use Rattle.moka_hist.specs.declared.replies.Answer.{Answer}
use Rattle.moka_hist.specs.declared.replies.Answer.TheVariants as answer
use Rattle.moka_laws.specs.Looks.{is_visible_in}

-- The call makes steps, one after the other, by the last of which it answers: it neither waits nor
-- asks.
pub record AnswersAlone {K V E : Type 0} (eq : K → K → Bool) (s : State K V E) (n : ℕ)
    (a : Answer K V E) (t : State K V E) : Type 0 where
  pub going : ℕ
  pub mid : State K V E
  pub goes : Goings eq Any going s n mid
  pub last : Step eq mid n (turn.Answer a) t

-- whatever stands under the key is visible
abbrev pub IsVisibleAt : {K V E : Type 0} → State K V E → K → Type 0
IsVisibleAt {K} {V} s key =
    (there : K) (stored : Stored V) → s.world.table.stored key ≡ Some (there, stored) →
    is_visible_in s there stored ≡ true

-- an insert that answers so, and right after it a get of an equal key that does, give the inserted
-- value, in a cache that is not disabled: where the record is visible as the get's last step judges
-- it
abbrev pub InsertThenGet : (K V E : Type 0) → (K → K → Bool) → Type 0
InsertThenGet K V E eq =
    (s t u : State K V E) (n : ℕ) (key q : K) (value : V) (a : Answer K V E) →
    IsReached eq s → is_disabled s.world.desk.rules ≡ false → s.calls n ≡ Some
    (fresh_call s.world.table.division.parts s.world.desk.rules (start.Insert key value)) →
    AnswersAlone eq s n answer.Done t → eq key q ≡ true →
    (got : AnswersAlone eq (started t (start.Get q)) (t.world.desk.last + 1) a u) →
    IsVisibleAt got.mid q → a ≡ answer.Found (Some value)
