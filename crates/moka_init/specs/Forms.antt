-- The form of an answer, which belongs to its access.
use Rattle.std.specs.Prelude.{◌≡◌, ℕ, Bool, List, Option, Result}
use Rattle.moka_hist.specs.Step.{Access}
use Rattle.moka_hist.specs.Step as step
use Rattle.moka_hist.specs.declared.accesses.Got.{Got}
use Rattle.moka_hist.specs.declared.accesses.Got.TheVariants as got
use Rattle.moka_hist.specs.declared.events.Told.{Told}
use Rattle.moka_hist.specs.declared.visits.Claim.{Claim}
use Rattle.moka_hist.specs.declared.visits.Found.{Found}
use Rattle.moka_hist.specs.declared.visits.Found.TheVariants as found
use Rattle.moka_hist.specs.declared.visits.LockTaken.{LockTaken}
use Rattle.moka_hist.specs.declared.visits.Settled.{Settled}
use Rattle.moka_hist.specs.declared.visits.Visit.{Visit}
use Rattle.moka_hist.specs.declared.visits.Visit.TheVariants as visit
use Rattle.moka_hist.specs.declared.predicates.PredicateError.{PredicateError}
use Rattle.moka_hist.specs.declared.rules.Cause.{Cause}
use Rattle.moka_hist.specs.declared.writes.Owed.{Owed}

module _ {K V E : Type 0} where
  -- what such a visit finds: the variant of its name
  abbrev pub IsFoundBy : Visit K V E → Found V E → Type 0
  IsFoundBy (visit.Clock n) f = (moment : ℕ) × (f ≡ found.Clock moment)
  IsFoundBy (visit.TakeOwed n) f = (owed : Option Owed) × (f ≡ found.TakeOwed owed)
  IsFoundBy (visit.NoticeEnded n number) f = (ended : Bool) × (f ≡ found.NoticeEnded ended)
  IsFoundBy (visit.LockKey n key) f = (taken : LockTaken) × (f ≡ found.LockKey taken)
  IsFoundBy (visit.UnlockKey n wrote) f = f ≡ found.UnlockKey
  IsFoundBy (visit.OpenNotice n key value stamp modified handed upsert) f =
      (cause : Option Cause) × (f ≡ found.OpenNotice cause)
  IsFoundBy (visit.StampMoment n) f = (moment : ℕ) × (f ≡ found.StampMoment moment)
  IsFoundBy (visit.Judge replace key stored) f = (seen : Bool) × (f ≡ found.Judge seen)
  IsFoundBy (visit.Scan key stored) f = (seen : Bool) × (f ≡ found.Scan seen)
  IsFoundBy (visit.Holds key stored cause) f = (holds : Bool) × (f ≡ found.Holds holds)
  IsFoundBy (visit.WaitOrOwn n key kind) f = (claim : Claim) × (f ≡ found.WaitOrOwn claim)
  IsFoundBy (visit.OwnAlone n key) f = (owned : Bool) × (f ≡ found.OwnAlone owned)
  IsFoundBy (visit.ReadSettled n) f = (settled : Settled V E) × (f ≡ found.ReadSettled settled)
  IsFoundBy (visit.Settle n with) f = f ≡ found.Settle
  IsFoundBy (visit.OpenAsk n takes) f = f ≡ found.OpenAsk
  IsFoundBy (visit.TakeTold n) f = (answer : Option (Told V E)) × (f ≡ found.TakeTold answer)
  IsFoundBy (visit.PostWrite n write) f = (posted : Bool) × (f ≡ found.PostWrite posted)
  IsFoundBy (visit.TakeTurn n) f = (taken : Bool) × (f ≡ found.TakeTurn taken)
  IsFoundBy (visit.ApplyOne n) f = (applied : Bool) × (f ≡ found.ApplyOne applied)
  IsFoundBy (visit.EndTurn n) f = f ≡ found.EndTurn
  IsFoundBy visit.InvalidateAll f = f ≡ found.InvalidateAll
  IsFoundBy (visit.Register test) f =
      (registering : Result ℕ PredicateError) × (f ≡ found.Register registering)
  IsFoundBy visit.Candidates f = (ids : List (ℕ × ℕ)) × (f ≡ found.Candidates ids)
  IsFoundBy (visit.Strike ids key stored) f = (left : List (ℕ × ℕ)) × (f ≡ found.Strike left)
  IsFoundBy (visit.Retire ids) f = f ≡ found.Retire

  -- a table operation gives a turn of the table, a visit what such a visit finds
  abbrev pub HasForm : Access K V E → Got K V E → Type 0
  HasForm (step.On_table operation) (got.Table turn) = Unit {0}
  HasForm (step.On_table operation) (got.Desk f) = ⊥
  HasForm (step.On_desk made) (got.Table turn) = ⊥
  HasForm (step.On_desk made) (got.Desk f) = IsFoundBy made f
