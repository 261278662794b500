-- What a visit needs of the desk, as a test of its condition is told it.
use Rattle.std.specs.Prelude.{◌≡◌, ℕ}
use Rattle.moka_hist.specs.declared.visits.Settled.{Settled}
use Rattle.moka_hist.specs.declared.visits.Settled.TheVariants as settled
use Rattle.moka_hist.specs.declared.visits.Visit.{Visit}
use Rattle.moka_hist.specs.declared.visits.Visit.TheVariants as visit
use Rattle.moka_needs.specs.declared.needs.Ending.{Ending}
use Rattle.moka_needs.specs.declared.needs.Ending.TheVariants as ending
use Rattle.moka_needs.specs.declared.needs.Need.{Need}
use Rattle.moka_needs.specs.declared.needs.Need.TheVariants as need

-- how an owner ends, but for the value and the error
abbrev pub ending_of : {V E : Type 0} → Settled V E → Ending
ending_of settled.NotYet = ending.NotYet
ending_of (settled.Ready value) = ending.Ready
ending_of (settled.Err error) = ending.Err
ending_of settled.Nothing = ending.Nothing
ending_of settled.Aborted = ending.Aborted

module _ {K V E : Type 0} where
  -- what the visit's condition speaks of, beside its call
  abbrev pub need_of : Visit K V E → Need K
  need_of (visit.Clock n) = need.Clock
  need_of (visit.TakeOwed n) = need.TakeOwed
  need_of (visit.NoticeEnded n number) = need.NoticeEnded
  need_of (visit.LockKey n key) = need.LockKey
  need_of (visit.UnlockKey n wrote) = need.UnlockKey wrote
  need_of (visit.OpenNotice n key value stamp modified cause upsert) = need.OpenNotice
  need_of (visit.StampMoment n) = need.StampMoment
  need_of (visit.Judge replace key stored) = need.Judge
  need_of (visit.Scan key stored) = need.Scan
  need_of (visit.Holds key stored cause) = need.Holds
  need_of (visit.WaitOrOwn n key kind) = need.WaitOrOwn (record { key = key; kind = kind })
  need_of (visit.OwnAlone n key) = need.OwnAlone
  need_of (visit.ReadSettled n) = need.ReadSettled
  need_of (visit.Settle n with) = need.Settle (ending_of with)
  need_of (visit.OpenAsk n takes) = need.OpenAsk
  need_of (visit.TakeTold n) = need.TakeTold
  need_of (visit.PostWrite n write) = need.PostWrite write
  need_of (visit.TakeTurn n) = need.TakeTurn
  need_of (visit.ApplyOne n) = need.ApplyOne
  need_of (visit.EndTurn n) = need.EndTurn
  need_of visit.InvalidateAll = need.InvalidateAll
  need_of (visit.Register test) = need.Register
  need_of visit.Candidates = need.Candidates
  need_of (visit.Strike ids key stored) = need.Strike
  need_of (visit.Retire ids) = need.Retire

  -- the visit is one of this call; eight kinds of visits don't name theirs
  abbrev pub IsOfCall : ℕ → Visit K V E → Type 0
  IsOfCall call (visit.Clock n) = n ≡ call
  IsOfCall call (visit.TakeOwed n) = n ≡ call
  IsOfCall call (visit.NoticeEnded n number) = n ≡ call
  IsOfCall call (visit.LockKey n key) = n ≡ call
  IsOfCall call (visit.UnlockKey n wrote) = n ≡ call
  IsOfCall call (visit.OpenNotice n key value stamp modified cause upsert) = n ≡ call
  IsOfCall call (visit.StampMoment n) = n ≡ call
  IsOfCall call (visit.Judge replace key stored) = Unit {0}
  IsOfCall call (visit.Scan key stored) = Unit {0}
  IsOfCall call (visit.Holds key stored cause) = Unit {0}
  IsOfCall call (visit.WaitOrOwn n key kind) = n ≡ call
  IsOfCall call (visit.OwnAlone n key) = n ≡ call
  IsOfCall call (visit.ReadSettled n) = n ≡ call
  IsOfCall call (visit.Settle n with) = n ≡ call
  IsOfCall call (visit.OpenAsk n takes) = n ≡ call
  IsOfCall call (visit.TakeTold n) = n ≡ call
  IsOfCall call (visit.PostWrite n write) = n ≡ call
  IsOfCall call (visit.TakeTurn n) = n ≡ call
  IsOfCall call (visit.ApplyOne n) = n ≡ call
  IsOfCall call (visit.EndTurn n) = n ≡ call
  IsOfCall call visit.InvalidateAll = Unit {0}
  IsOfCall call (visit.Register test) = Unit {0}
  IsOfCall call visit.Candidates = Unit {0}
  IsOfCall call (visit.Strike ids key stored) = Unit {0}
  IsOfCall call (visit.Retire ids) = Unit {0}
