-- For which accesses memory may be wanting.
use Rattle.std.specs.Prelude.{◌≡◌, ◌⊎◌, true, false, IsNone, MatchOption}
use Rattle.moka_hist.specs.State.{DeskPart, World}
use Rattle.moka_hist.specs.Step.{Access}
use Rattle.moka_hist.specs.Step as step
use Rattle.moka_hist.specs.Visits.{is_free_for, is_running, is_seen, settlement_for}
use Rattle.moka_hist.specs.declared.loads.Kind.TheVariants as kind
use Rattle.moka_hist.specs.declared.visits.Visit.{Visit}
use Rattle.moka_hist.specs.declared.visits.Visit.TheVariants as visit
use Rattle.moka_init.specs.Grounds.{SettledNeedsMemory, TakesCopies}

module _ {K V E : Type 0} where
  -- Memory may be wanting for such a visit of the desk: it writes down what is new. Where the turn is
  -- another's, or the notice runs, it lists the call; where a record is seen it may keep the moment;
  -- where nobody owns the computes of a key it keeps the owner; and where an owner has ended with a
  -- value or an error it copies that. Taking up what is owed or told, freeing a lock, settling,
  -- posting a write, applying the log, looking at a record of a walk, invalidating all and letting
  -- predicates go need none.
  abbrev pub VisitNeedsMemory : DeskPart K V E → Visit K V E → Type 0
  VisitNeedsMemory w (visit.Clock n) = ⊥
  VisitNeedsMemory w (visit.TakeOwed n) = ⊥
  VisitNeedsMemory w (visit.NoticeEnded n number) = is_running w number ≡ true
  VisitNeedsMemory w (visit.LockKey n key) = Unit {0}
  VisitNeedsMemory w (visit.UnlockKey n wrote) = ⊥
  VisitNeedsMemory w (visit.OpenNotice n key value stamp modified cause upsert) = Unit {0}
  VisitNeedsMemory w (visit.StampMoment n) = Unit {0}
  VisitNeedsMemory w (visit.Judge replace key stored) = is_seen w replace key stored ≡ true
  VisitNeedsMemory w (visit.Scan key stored) = ⊥
  VisitNeedsMemory w (visit.Holds key stored cause) = ⊥
  VisitNeedsMemory w (visit.WaitOrOwn n key kind) = Unit {0}
  VisitNeedsMemory w (visit.OwnAlone n key) =
      IsNone (w.owners (record { key = key; kind = kind.Compute }))
  VisitNeedsMemory w (visit.ReadSettled n) =
      MatchOption (settlement_for w n) ⊥ (λ s. SettledNeedsMemory s)
  VisitNeedsMemory w (visit.Settle n with) = ⊥
  VisitNeedsMemory w (visit.OpenAsk n takes) = Unit {0}
  VisitNeedsMemory w (visit.TakeTold n) = ⊥
  VisitNeedsMemory w (visit.PostWrite n write) = ⊥
  VisitNeedsMemory w (visit.TakeTurn n) = is_free_for w n ≡ false
  VisitNeedsMemory w (visit.ApplyOne n) = ⊥
  VisitNeedsMemory w (visit.EndTurn n) = ⊥
  VisitNeedsMemory w visit.InvalidateAll = ⊥
  VisitNeedsMemory w (visit.Register test) = w.rules.closures ≡ true
  VisitNeedsMemory w visit.Candidates = Unit {0}
  VisitNeedsMemory w (visit.Strike ids key stored) = ⊥
  VisitNeedsMemory w (visit.Retire ids) = ⊥

  -- memory may be wanting for such an access in this world: it goes to the table, or is such a
  -- visit
  abbrev pub NeedsMemory : World K V E → Access K V E → Type 0
  NeedsMemory w (step.On_table operation) = Unit {0}
  NeedsMemory w (step.On_desk made) = VisitNeedsMemory w.desk made

  -- memory may be wanting for the step of a call that stands at such an access in this world: to
  -- copy what it is told, or for the access itself
  abbrev pub StepNeedsMemory : World K V E → Access K V E → Type 0
  StepNeedsMemory w access = TakesCopies access ⊎ NeedsMemory w access
