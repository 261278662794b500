-- What each visit of a call needs of the desk.
use Rattle.std.specs.Prelude.{◌≡◌, ◌≢◌, ℕ, Bool, true, false, ◌||◌, List, ◌++◌, map, Option, Some, None, is_some, IsSome, IsNone, IsSomeAnd}
use Rattle.moka_hist.specs.Finite.{times}
use Rattle.moka_hist.specs.State.{DeskPart}
use Rattle.moka_hist.specs.Visits.{number_of}
use Rattle.moka_hist.specs.declared.loads.Load.{Load}
use Rattle.moka_hist.specs.declared.loads.Kind.{Kind}
use Rattle.moka_hist.specs.declared.loads.Kind.TheVariants as kind
use Rattle.moka_hist.specs.declared.visits.Settled.{Settled}
use Rattle.moka_hist.specs.declared.visits.Settled.TheVariants as settled
use Rattle.moka_hist.specs.declared.visits.Visit.{Visit}
use Rattle.moka_hist.specs.declared.visits.Visit.TheVariants as visit
use Rattle.moka_hist.specs.declared.writes.Holding.{Holding}
use Rattle.moka_hist.specs.declared.writes.Holding.TheVariants as holding
use Rattle.moka_hist.specs.declared.writes.Write.{Write}

-- the number of the write that a call holds: its own, or that of the write that it took up
abbrev pub held_number : ℕ → Holding → ℕ
held_number call (holding.Own pending) = call
held_number call (holding.TookUp write) = number_of write

-- what the call holds is the place of this write
abbrev pub IsPlaceOf : Option Holding → ℕ → Write → Type 0
IsPlaceOf None call write = ⊥
IsPlaceOf (Some (holding.Own pending)) call write = number_of write ≡ call
IsPlaceOf (Some (holding.TookUp held)) call write = write ≡ held

-- a call that holds this may leave this write to others, if any: it holds it; and where it leaves
-- none, it took none up
abbrev pub MayLeaveWith : Option Holding → ℕ → Option Write → Type 0
MayLeaveWith held call (Some write) = IsPlaceOf held call write
MayLeaveWith None call None = Unit {0}
MayLeaveWith (Some (holding.Own pending)) call None = Unit {0}
MayLeaveWith (Some (holding.TookUp write)) call None = ⊥

-- an owner of a load of this kind may end so
abbrev pub may_end : {V E : Type 0} → Kind → Settled V E → Bool
may_end kind settled.NotYet = false
may_end kind.GetWith (settled.Ready value) = true
may_end kind.Optional (settled.Ready value) = true
may_end kind.Try (settled.Ready value) = true
may_end kind.Compute (settled.Ready value) = false
may_end kind.GetWith (settled.Err error) = false
may_end kind.Optional (settled.Err error) = false
may_end kind.Try (settled.Err error) = true
may_end kind.Compute (settled.Err error) = false
may_end kind.GetWith settled.Nothing = false
may_end kind.Optional settled.Nothing = true
may_end kind.Try settled.Nothing = false
may_end kind.Compute settled.Nothing = true
may_end kind settled.Aborted = true

module _ {K V E : Type 0} where
  -- the call holds this write: it took it up, or has a place for the write of its own number
  abbrev pub HoldsWrite : DeskPart K V E → ℕ → Write → Type 0
  HoldsWrite w call write = IsPlaceOf (w.holding call) call write

  -- the call has at most a place for a write of its own, and none that it took up
  abbrev pub HoldsNoWrite : DeskPart K V E → ℕ → Type 0
  HoldsNoWrite w call = (write : Write) → w.holding call ≢ Some (holding.TookUp write)

  -- the numbers of the writes that stand with the desk: owed, logged or applied
  abbrev pub numbers_of : DeskPart K V E → List ℕ
  numbers_of w = map number_of (map (λ o. o.write) w.owed ++ w.log ++ w.applied)

  -- no write of the number is owed, logged, applied or held
  pub record IsUnused (w : DeskPart K V E) (number : ℕ) : Type 0 where
    pub stands : times number (numbers_of w) ≡ 0
    pub held : (n : ℕ) (h : Holding) → w.holding n ≡ Some h → held_number n h ≢ number

  -- an owner of the load that stands has not settled
  abbrev pub HasUnsettled : DeskPart K V E → Load K → Type 0
  HasUnsettled w load = (owner : ℕ) → w.owners load ≡ Some owner → IsNone (w.settled owner)

  -- The desk allows the visit. A call holds one write at a time, and owns or awaits one load at a
  -- time; it takes no lock beside one that it holds or its notice keeps; it settles what it owns,
  -- posts what it holds, frees the lock that it holds, opens one notice, and applies the log while
  -- it has the turn. Places that it gives back are those of no write that it took up.
  abbrev pub MayVisit : DeskPart K V E → Visit K V E → Type 0
  MayVisit w (visit.Clock call) = HoldsNoWrite w call
  MayVisit w (visit.TakeOwed call) = IsNone (w.holding call)
  MayVisit w (visit.NoticeEnded call number) = Unit {0}
  MayVisit w (visit.LockKey call key) = IsNone (w.locked call) × IsNone (w.kept call)
  MayVisit w (visit.UnlockKey call wrote) =
      IsSome (w.locked call) × (wrote ≡ false → HoldsNoWrite w call)
  MayVisit w (visit.OpenNotice call key value stamp modified cause upsert) = IsNone (w.notices call)
  MayVisit w (visit.StampMoment call) = IsNone (w.holding call) × IsUnused w call
  MayVisit w (visit.Judge replace key stored) = Unit {0}
  MayVisit w (visit.Scan key stored) = Unit {0}
  MayVisit w (visit.Holds key stored cause) = Unit {0}
  MayVisit w (visit.WaitOrOwn call key kind) =
      IsNone (w.owning call) × IsNone (w.joined call) ×
      HasUnsettled w (record { key = key; kind = kind })
  MayVisit w (visit.OwnAlone call key) = IsNone (w.owning call) × IsNone (w.joined call)
  MayVisit w (visit.ReadSettled call) = IsSome (w.joined call)
  MayVisit w (visit.Settle call with) =
      IsSomeAnd (w.owning call) (λ load. may_end load.kind with ≡ true)
  MayVisit w (visit.OpenAsk call takes) = IsNone (w.asks call) × IsNone (w.told call)
  MayVisit w (visit.TakeTold call) = (is_some (w.asks call) || is_some (w.told call)) ≡ true
  MayVisit w (visit.PostWrite call write) = HoldsWrite w call write
  MayVisit w (visit.TakeTurn call) = w.turn ≢ Some call
  MayVisit w (visit.ApplyOne call) = w.turn ≡ Some call
  MayVisit w (visit.EndTurn call) = w.turn ≡ Some call
  MayVisit w visit.InvalidateAll = Unit {0}
  MayVisit w (visit.Register test) = Unit {0}
  MayVisit w visit.Candidates = Unit {0}
  MayVisit w (visit.Strike ids key stored) = Unit {0}
  MayVisit w (visit.Retire ids) = Unit {0}

  -- the desk allows the call to leave this write to others, if any: it holds it
  abbrev pub MayLeave : DeskPart K V E → ℕ → Option Write → Type 0
  MayLeave w call write = MayLeaveWith (w.holding call) call write
