-- What a flow stands on.
use Rattle.std.specs.Prelude.{◌≡◌, ◌≤◌, ℕ, suc, ◌+◌, ◌*◌, Bool, List, [], ◌∷◌, ◌++◌, Option, Some, None}
use Rattle.std.specs.Prelude.{MatchBool, MatchOption}
use Rattle.moka_hist.specs.State.{World}
use Rattle.moka_hist.specs.Plan.{Item}
use Rattle.moka_hist.specs.Plan as plan
use Rattle.moka_hist.specs.Step.{Access, Gets, access_of, want_for, May}
use Rattle.moka_hist.specs.Step as step
use Rattle.moka_hist.specs.declared.tables.TableOp.{TableOp}
use Rattle.moka_hist.specs.declared.visits.Settled.{Settled}
use Rattle.moka_hist.specs.declared.visits.Settled.TheVariants as settled
use Rattle.moka_hist.specs.declared.visits.Takes.{Takes}
use Rattle.moka_hist.specs.declared.visits.Takes.TheVariants as takes
use Rattle.moka_hist.specs.declared.visits.Visit.{Visit}
use Rattle.moka_hist.specs.declared.visits.Visit.TheVariants as visit
use Rattle.moka_hist.specs.declared.tables.TableTurn.TheVariants as table
use Rattle.moka_hist.specs.declared.accesses.Want.{Want}
use Rattle.moka_hist.specs.declared.accesses.Want.TheVariants as want
use Rattle.moka_hist.specs.declared.accesses.Got.{Got}
use Rattle.moka_hist.specs.declared.accesses.Got.TheVariants as got
use Rattle.moka_bound.specs.Ahead.{Work}
use Rattle.moka_bound.specs.Falling.{Shortens, keys_in}
use Rattle.moka_init.specs.FlowPlan.{call_of, retires_in, standing, standing_with}
use Rattle.moka_init.specs.PointPlan.{carried_at, plan_at}
use Rattle.moka_init.specs.Forms.{HasForm}
use Rattle.moka_init.specs.declared.flow.Flow.{Flow}

-- what a ground has told that keeps no list of the accesses that were made
abbrev pub nothing_told : (K V E : Type 0) → Option (List (Access K V E × Got K V E))
nothing_told K V E = None

-- What a ground tells of itself.
pub record Account (K V E : Type 0) : Type 0 where
  -- the number of the call whose ground it is
  pub call : ℕ
  -- the table operation that the call has begun there and that has not decided
  pub begun : Option (TableOp K V)
  -- the accesses that were made there with what they gave, where it can tell them
  pub made : Option (List (Access K V E × Got K V E))
  -- What the length of the call's way depends on there: how many writes are owed and logged, and
  -- for how many steps its table operation may stay undecided. How many keys its lists may still
  -- give is for the flow to say.
  pub work : Work

-- memory may be wanting to tell those that wait how an owner ended: it is copied
abbrev pub SettledNeedsMemory : {V E : Type 0} → Settled V E → Type 0
SettledNeedsMemory settled.NotYet = ⊥
SettledNeedsMemory (settled.Ready value) = Unit {0}
SettledNeedsMemory (settled.Err error) = Unit {0}
SettledNeedsMemory settled.Nothing = ⊥
SettledNeedsMemory settled.Aborted = ⊥

-- memory may be wanting to open an ask that takes such answers: a compute asks with a copy of the
-- pair that it found
abbrev pub AskTakesCopies : Takes → Type 0
AskTakesCopies takes.Value = Unit {0}
AskTakesCopies takes.Optional = ⊥
AskTakesCopies takes.Try = ⊥
AskTakesCopies takes.Op = Unit {0}
AskTakesCopies takes.TryOp = Unit {0}

module _ {K V E : Type 0} where
  -- The access that is wanted, where this operation was begun: nothing else is, until it has
  -- decided.
  abbrev pub wanted : Option (TableOp K V) → Want K V E → Option (Access K V E)
  wanted None (want.Begin operation) = Some (step.On_table operation)
  wanted None (want.Desk made) = Some (step.On_desk made)
  wanted None want.Table = None
  wanted (Some begun) want.Table = Some (step.On_table begun)
  wanted (Some begun) (want.Begin operation) = None
  wanted (Some begun) (want.Desk made) = None

  -- for such a visit a key, a value or a list of predicates is copied; those that leave are lent
  abbrev pub VisitTakesCopies : Visit K V E → Type 0
  VisitTakesCopies (visit.Clock n) = ⊥
  VisitTakesCopies (visit.TakeOwed n) = ⊥
  VisitTakesCopies (visit.NoticeEnded n number) = ⊥
  VisitTakesCopies (visit.LockKey n key) = Unit {0}
  VisitTakesCopies (visit.UnlockKey n wrote) = ⊥
  VisitTakesCopies (visit.OpenNotice n key value stamp modified cause upsert) = Unit {0}
  VisitTakesCopies (visit.StampMoment n) = ⊥
  VisitTakesCopies (visit.Judge replace key stored) = Unit {0}
  VisitTakesCopies (visit.Scan key stored) = Unit {0}
  VisitTakesCopies (visit.Holds key stored cause) = Unit {0}
  VisitTakesCopies (visit.WaitOrOwn n key kind) = Unit {0}
  VisitTakesCopies (visit.OwnAlone n key) = Unit {0}
  VisitTakesCopies (visit.ReadSettled n) = ⊥
  VisitTakesCopies (visit.Settle n with) = SettledNeedsMemory with
  VisitTakesCopies (visit.OpenAsk n takes) = AskTakesCopies takes
  VisitTakesCopies (visit.TakeTold n) = ⊥
  VisitTakesCopies (visit.PostWrite n write) = ⊥
  VisitTakesCopies (visit.TakeTurn n) = ⊥
  VisitTakesCopies (visit.ApplyOne n) = ⊥
  VisitTakesCopies (visit.EndTurn n) = ⊥
  VisitTakesCopies visit.InvalidateAll = ⊥
  VisitTakesCopies (visit.Register test) = ⊥
  VisitTakesCopies visit.Candidates = ⊥
  VisitTakesCopies (visit.Strike ids key stored) = Unit {0}
  VisitTakesCopies (visit.Retire ids) = ⊥

  -- for such an access a key or a value is copied; one of the table may take them along
  abbrev pub TakesCopies : Access K V E → Type 0
  TakesCopies (step.On_table operation) = Unit {0}
  TakesCopies (step.On_desk made) = VisitTakesCopies made

  -- whatever the access
  abbrev pub any_access : World K V E → Access K V E → Type 0
  any_access w access = Unit {0}

  -- the operation that is begun after an access gave this
  abbrev pub still_begun : Access K V E → Got K V E → Option (TableOp K V)
  still_begun (step.On_table operation) (got.Table table.Going) = Some operation
  still_begun (step.On_table operation) (got.Table (table.Decided answer)) = None
  still_begun (step.On_table operation) (got.Desk found) = None
  still_begun (step.On_desk made) given = None

  -- the world has what the wanted access needs
  abbrev pub MayWant : World K V E → Option (TableOp K V) → Want K V E → Type 0
  MayWant w begun wish = MatchOption (wanted begun wish) ⊥ (λ access. May w access)

  -- the access of the flow's call, had it this to do, and that access as it is wanted
  abbrev pub access_from : Flow K V E → List (Item K V E) → Access K V E
  access_from flow items = access_of flow.call (standing flow items)

  -- the same where it carries these predicates
  abbrev pub access_with : Flow K V E → Option (List (ℕ × ℕ)) → List (Item K V E) → Access K V E
  access_with flow ids items = access_of flow.call (standing_with flow ids items)

  abbrev pub wish_with : Flow K V E → Option (List (ℕ × ℕ)) → List (Item K V E) → Want K V E
  wish_with flow ids items = want_for flow.begun (access_with flow ids items)

  abbrev pub wish_for : Flow K V E → List (Item K V E) → Want K V E
  wish_for flow items = want_for flow.begun (access_from flow items)

  -- the access that the flow stands at
  abbrev pub access_at : Flow K V E → Access K V E
  access_at flow = access_of flow.call (call_of flow)

  -- copies are made to tell the access that it needs to do this: those of the predicates that leave
  -- are made where it is only told
  abbrev pub CopiesWith : Flow K V E → Option (List (ℕ × ℕ)) → List (Item K V E) → Type 0
  CopiesWith flow ids items =
      MatchBool (retires_in items) (Unit {0}) (TakesCopies (access_with flow ids items))

  -- copies are made to tell the access that the flow stands at
  abbrev pub CopiesAt : Flow K V E → Type 0
  CopiesAt flow = CopiesWith flow (carried_at flow.point) (plan_at flow.point)

  -- the access that the flow wants, as it wants it
  abbrev pub wish_of : Flow K V E → Want K V E
  wish_of flow = want_for flow.begun (access_at flow)

  -- where the flow has begun its operation, it is the one that is begun there, and else none is
  abbrev pub HasBegun : Option (TableOp K V) → Flow K V E → Type 0
  HasBegun begun flow = wanted begun (wish_of flow) ≡ Some (access_at flow)

  -- a ground that tells this is that of the flow
  pub record IsOn (account : Account K V E) (flow : Flow K V E) : Type 0 where
    pub call : account.call ≡ flow.call
    pub begun : HasBegun account.begun flow

  -- The access gave this, in each world that the ground stood for and that allows it, and the
  -- ground stands for the world then.
  abbrev pub Gives : (K → K → Bool) → ℕ → (World K V E → Type 0) → Access K V E → Got K V E
      → (World K V E → Type 0) → Type 0
  Gives eq call stood access given stands =
      (w : World K V E) → stood w → May w access
      → (new : World K V E) × Gets eq call w access given new × stands new

  -- the access is told with what it gave, after what was told before, and nothing else is
  abbrev pub TellsMade : Option (List (Access K V E × Got K V E)) → Access K V E → Got K V E
      → Option (List (Access K V E × Got K V E)) → Type 0
  TellsMade old access given new =
      (before : List (Access K V E × Got K V E)) → old ≡ Some before
      → new ≡ Some (before ++ (access, given) ∷ [])

  -- What a ground tells after the access gave this.
  pub record Accesses (old : Account K V E) (access : Access K V E) (given : Got K V E)
      (new : Account K V E) : Type 0 where
    -- the answer is of the form that belongs to the access
    pub form : HasForm access given
    -- it is the ground of the same call
    pub call : new.call ≡ old.call
    -- an operation is begun there as long as it has not decided
    pub begun : new.begun ≡ still_begun access given
    -- exactly this access is told
    pub tells : TellsMade old.made access given new.made
    -- a list gives no more keys than an operation may stay undecided for steps
    pub lists : keys_in given ≤ old.work.most
    -- an undecided step is followed by fewer, whatever later lists may give
    pub shortens : (keys : ℕ) → Shortens (record old.work { keys = keys_in given + keys })
        (record new.work { keys = keys }) access given

  -- how many lists the plan has still to make
  abbrev pub lists_in : List (Item K V E) → ℕ
  lists_in [] = 0
  lists_in (plan.List_keys part ∷ rest) = suc (lists_in rest)
  lists_in (plan.Candidates parts ∷ rest) = parts + lists_in rest
  lists_in (item ∷ rest) = lists_in rest

  -- the work that is before the flow's call there: each list that it has still to make may give as
  -- many keys as an operation may stay undecided for steps
  abbrev pub work_for : Account K V E → Flow K V E → Work
  work_for account flow =
      record account.work { keys = lists_in (call_of flow).plan * account.work.most }

  -- memory was wanting for the access: in each world that the ground stood for and that allows it,
  -- it may be
  abbrev pub Lacks : (World K V E → Type 0) → (World K V E → Access K V E → Type 0) → Access K V E → Type 0
  Lacks stood needs access = (w : World K V E) → stood w → May w access → needs w access

  -- it holds of the access that is wanted
  abbrev pub OfWanted : Account K V E → Want K V E → (Access K V E → Type 0) → Type 0
  OfWanted old wish P = (access : Access K V E) → wanted old.begun wish ≡ Some access → P access
