-- What a visit needs of the desk, by the need that it has.
use Rattle.std.specs.Prelude.{◌≡◌, ◌≢◌, ◌↔◌, ℕ, Bool, IsTrue, true, false, ◌||◌, Some, is_some, IsSome, IsNone, IsSomeAnd}
use Rattle.moka_hist.specs.Conditions.{HasUnsettled, HoldsNoWrite, HoldsWrite, IsUnused}
use Rattle.moka_hist.specs.State.{DeskPart}
use Rattle.moka_hist.specs.declared.loads.Kind.{Kind}
use Rattle.moka_hist.specs.declared.loads.Kind.TheVariants as kind
use Rattle.moka_needs.specs.declared.needs.Ending.{Ending}
use Rattle.moka_needs.specs.declared.needs.Ending.TheVariants as ending
use Rattle.moka_needs.specs.declared.needs.Need.{Need}
use Rattle.moka_needs.specs.declared.needs.Need.TheVariants as need

-- The test answers exactly whether P, where it can tell. Else it answers true where P, and where it
-- does so Q.
abbrev pub Tests : Bool → Bool → Type 0 → Type 0 → Type 0
Tests true answer P Q = IsTrue answer ↔ P
Tests false answer P Q = (P → IsTrue answer) × (IsTrue answer → Q)

-- A desk without a history can tell whether it has this: all but that no write of the call's number
-- was applied, and that no notice was opened for it. These two needs alone ask for that.
abbrev pub is_recalled : {K : Type 0} → Need K → Bool
is_recalled need.StampMoment = false
is_recalled need.OpenNotice = false
is_recalled _ = true

-- an owner of a load of this kind may end so
abbrev pub may_end_so : Kind → Ending → Bool
may_end_so kind.GetWith ending.NotYet = false
may_end_so kind.GetWith ending.Ready = true
may_end_so kind.GetWith ending.Err = false
may_end_so kind.GetWith ending.Nothing = false
may_end_so kind.GetWith ending.Aborted = true
may_end_so kind.Optional ending.NotYet = false
may_end_so kind.Optional ending.Ready = true
may_end_so kind.Optional ending.Err = false
may_end_so kind.Optional ending.Nothing = true
may_end_so kind.Optional ending.Aborted = true
may_end_so kind.Try ending.NotYet = false
may_end_so kind.Try ending.Ready = true
may_end_so kind.Try ending.Err = true
may_end_so kind.Try ending.Nothing = false
may_end_so kind.Try ending.Aborted = true
may_end_so kind.Compute ending.NotYet = false
may_end_so kind.Compute ending.Ready = false
may_end_so kind.Compute ending.Err = false
may_end_so kind.Compute ending.Nothing = true
may_end_so kind.Compute ending.Aborted = true

module _ {K V E : Type 0} where
  -- the desk has what the call needs: the condition of its visit
  abbrev pub Meets : DeskPart K V E → ℕ → Need K → Type 0
  Meets w call need.Clock = HoldsNoWrite w call
  Meets w call need.TakeOwed = IsNone (w.holding call)
  Meets w call need.NoticeEnded = Unit {0}
  Meets w call need.LockKey = IsNone (w.locked call) × IsNone (w.kept call)
  Meets w call (need.UnlockKey wrote) =
      IsSome (w.locked call) × (wrote ≡ false → HoldsNoWrite w call)
  Meets w call need.OpenNotice = IsNone (w.notices call)
  Meets w call need.StampMoment = IsNone (w.holding call) × IsUnused w call
  Meets w call need.Judge = Unit {0}
  Meets w call need.Scan = Unit {0}
  Meets w call need.Holds = Unit {0}
  Meets w call (need.WaitOrOwn load) =
      IsNone (w.owning call) × IsNone (w.joined call) × HasUnsettled w load
  Meets w call need.OwnAlone = IsNone (w.owning call) × IsNone (w.joined call)
  Meets w call need.ReadSettled = IsSome (w.joined call)
  Meets w call (need.Settle with) =
      IsSomeAnd (w.owning call) (λ load. may_end_so load.kind with ≡ true)
  Meets w call need.OpenAsk = IsNone (w.asks call) × IsNone (w.told call)
  Meets w call need.TakeTold = (is_some (w.asks call) || is_some (w.told call)) ≡ true
  Meets w call (need.PostWrite write) = HoldsWrite w call write
  Meets w call need.TakeTurn = w.turn ≢ Some call
  Meets w call need.ApplyOne = w.turn ≡ Some call
  Meets w call need.EndTurn = w.turn ≡ Some call
  Meets w call need.InvalidateAll = Unit {0}
  Meets w call need.Register = Unit {0}
  Meets w call need.Candidates = Unit {0}
  Meets w call need.Strike = Unit {0}
  Meets w call need.Retire = Unit {0}
