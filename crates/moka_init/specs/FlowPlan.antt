-- What a flow stands for: the call of the reference cache, with its plan.
use Rattle.std.specs.Prelude.{◌≡◌, ℕ, Bool, true, false, List, [], ◌∷◌, Option, Some, None}
use Rattle.std.specs.Option.{option_map}
use Rattle.moka_hist.specs.State.{Call}
use Rattle.moka_hist.specs.Plan.{Item, held_by}
use Rattle.moka_hist.specs.Next.{Next}
use Rattle.moka_hist.specs.Step.{going_as, replace_of}
use Rattle.moka_hist.specs.declared.records.Mode.TheVariants as mode
use Rattle.moka_hist.specs.Plan as plan
use Rattle.moka_hist.specs.declared.visits.Visit.{Visit}
use Rattle.moka_hist.specs.declared.visits.Visit.TheVariants as visit
use Rattle.moka_hist.specs.declared.accesses.Turn.{Turn}
use Rattle.moka_hist.specs.declared.accesses.Turn.TheVariants as turn
use Rattle.moka_hist.specs.declared.accesses.Got.{Got}
use Rattle.moka_hist.specs.declared.accesses.Got.TheVariants as got
use Rattle.moka_hist.specs.declared.tables.TableTurn.TheVariants as table
use Rattle.moka_init.specs.PointPlan.{carried_at, plan_at, is_copied_in}
use Rattle.moka_init.specs.declared.points.Computing.{Computing}
use Rattle.moka_init.specs.declared.points.Computing.TheVariants as computing
use Rattle.moka_init.specs.declared.points.Point.{Point}
use Rattle.moka_init.specs.declared.points.Point.TheVariants as point
use Rattle.moka_init.specs.declared.flow.Flow.{Flow}

module _ {K V E : Type 0} where
  abbrev pub call_of : Flow K V E → Call K V E
  call_of flow =
      record {
        rules = flow.rules;
        mode = flow.mode;
        plan = plan_at flow.point;
        aborts = flow.aborts;
        carried = carried_at flow.point;
      }

  -- the visit that opens the notice with which the plan of the call of this number starts, if it
  -- does
  abbrev pub opening : ℕ → List (Item K V E) → Option (Visit K V E)
  opening n (plan.Notice key old cause upsert ∷ rest) =
      Some (visit.OpenNotice n key old.value old.stamp old.modified cause upsert)
  opening n _ = None

  -- the value on which the plan's first item asks its call's replace test, if it does
  abbrev pub tested_in : List (Item K V E) → Option V
  tested_in (plan.Judge aim key found ∷ rest) =
      option_map (λ test. found.value) (replace_of aim)
  tested_in _ = None

  -- the key of the load whose owner's end the plan's first item reads, if it reads one
  abbrev pub key_read : List (Item K V E) → Option K
  key_read (plan.Read sought ∷ rest) = Some sought.load.key
  key_read _ = None

  -- the plan's first item judges a record that a look found; one of a walk raises no moment, but
  -- judges by the one that is kept
  abbrev pub carries_in : List (Item K V E) → Bool
  carries_in (plan.Judge aim key found ∷ rest) = true
  carries_in (plan.Holds key stamp cause there found ∷ rest) = true
  carries_in (plan.Scan there found ∷ rest) = true
  carries_in _ = false

  -- the plan's first item takes the answer to its call's own ask
  abbrev pub takes_told : List (Item K V E) → Bool
  takes_told (plan.Told load ∷ rest) = true
  takes_told (plan.Told_op compute pair ∷ rest) = true
  takes_told _ = false

  -- the plan's first item lets the predicates go that its call carries
  abbrev pub retires_in : List (Item K V E) → Bool
  retires_in (plan.Retire ∷ rest) = true
  retires_in _ = false

  -- the visit that opens the notice of the flow's call, where that is due
  abbrev pub due_of : Flow K V E → Option (Visit K V E)
  due_of flow = opening flow.call (call_of flow).plan

module _ {K V E : Type 0} where
  -- the flow's call, with this plan
  abbrev pub standing : Flow K V E → List (Item K V E) → Call K V E
  standing flow items =
      record {
        rules = flow.rules;
        mode = flow.mode;
        plan = items;
        aborts = flow.aborts;
        carried = None;
      }

  -- the same with the predicates that it carries, by id and moment, if it carries some
  abbrev pub standing_with : Flow K V E → Option (List (ℕ × ℕ)) → List (Item K V E) → Call K V E
  standing_with flow ids items =
      record {
        rules = flow.rules;
        mode = flow.mode;
        plan = items;
        aborts = flow.aborts;
        carried = ids;
      }

  -- it goes on with this plan
  abbrev pub mid : Flow K V E → List (Item K V E) → Next K V E
  mid flow items = going_as
      (record {
        rules = flow.rules;
        mode = mode.Mid;
        plan = items;
        aborts = flow.aborts;
        carried = None;
      })

  -- the call that a turn leaves in the flow
  abbrev pub left_in : Turn K V E → Flow K V E → Option (Call K V E)
  left_in turn.Going flow = Some (call_of flow)
  left_in turn.Wait flow = Some (call_of flow)
  left_in (turn.Ask ask) flow = Some (call_of flow)
  left_in (turn.Answer answer) flow = None
  left_in (turn.Item key value) flow = Some (call_of flow)

  abbrev pub next_in : Turn K V E → Flow K V E → Next K V E
  next_in t flow = record { left = left_in t flow; turn = t }

  -- a table operation was begun and hasn't decided
  abbrev pub is_begun : Got K V E → Bool
  is_begun (got.Table table.Going) = true
  is_begun (got.Table (table.Decided answer)) = false
  is_begun (got.Desk found) = false

  -- nothing is left to do
  abbrev pub is_over : List (Item K V E) → Bool
  is_over [] = true
  is_over (item ∷ rest) = false

  -- the call has not answered: something is left for it to do
  abbrev pub IsLive : Flow K V E → Type 0
  IsLive flow = is_over (plan_at flow.point) ≡ false

  -- nothing is left of an answered call: nothing to do, and no write that it holds
  pub record IsOver (flow : Flow K V E) : Type 0 where
    pub plan : (call_of flow).plan ≡ []
    pub holds : held_by (call_of flow).plan ≡ None

  -- what a turn leaves of its call: nothing, once it has answered
  abbrev pub Leaves : Turn K V E → Flow K V E → Type 0
  Leaves turn.Going flow = IsLive flow
  Leaves turn.Wait flow = IsLive flow
  Leaves (turn.Ask ask) flow = IsLive flow
  Leaves (turn.Answer answer) flow = IsOver flow
  Leaves (turn.Item key value) flow = IsLive flow

  -- The flow stands for what it stood for: the same call under the same number, with the same
  -- operation begun.
  pub record StandsStill (old new : Flow K V E) : Type 0 where
    pub call : call_of new ≡ call_of old
    pub number : new.call ≡ old.call
    pub begun : new.begun ≡ old.begun

  -- the pair that a compute is to ask with was copied
  abbrev pub IsAskCopied : Computing K V E → Type 0
  IsAskCopied (computing.Own compute) = Unit {0}
  IsAskCopied (computing.OwnAlone key) = Unit {0}
  IsAskCopied (computing.Read compute) = Unit {0}
  IsAskCopied (computing.Ask compute found copy) = copy ≡ found
  IsAskCopied (computing.Told compute found) = Unit {0}
  IsAskCopied (computing.Settle answer) = Unit {0}

  -- what the next step from there needs twice was copied
  abbrev pub IsCopied : Point K V E → Type 0
  IsCopied (point.Posting p) = Unit {0}
  IsCopied (point.Looking p) = Unit {0}
  IsCopied (point.Loading p) = Unit {0}
  IsCopied (point.Computing p) = IsAskCopied p
  IsCopied (point.Writing p) = Unit {0}
  IsCopied (point.Removing p) = Unit {0}
  IsCopied (point.Listening p) = is_copied_in p ≡ true
  IsCopied (point.Walking p) = Unit {0}
  IsCopied (point.Maintaining p) = Unit {0}
  IsCopied point.InvalidatingAll = Unit {0}
  IsCopied (point.Registering test) = Unit {0}
  IsCopied (point.Answering answer) = Unit {0}
  IsCopied point.Spent = Unit {0}

  -- what the flow's next step needs twice was copied
  abbrev pub IsReady : Flow K V E → Type 0
  IsReady flow = IsCopied flow.point

  -- the flow goes on so: its turn and the call that is left are these, of the same number, and
  -- where its operation is stays
  pub record GoesOn (old : Flow K V E) (on : Next K V E) (turn : Turn K V E)
      (new : Flow K V E) : Type 0 where
    pub next : next_in turn new ≡ on
    pub leaves : Leaves turn new
    pub number : new.call ≡ old.call
    pub begun : new.begun ≡ old.begun
