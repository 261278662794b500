-- One step of a call: one access, and what follows from its answer.
use Rattle.std.specs.Prelude.{◌<◌, ◌≢◌, suc, zero, ◌≡◌, ℕ, Bool, true, false, List, [], ◌∷◌, Option, Some, None, unwrap_or}
use Rattle.moka_hist.specs.Finite.{put_at}
use Rattle.moka_hist.specs.State.{Call, TablePart, World, State}
use Rattle.moka_hist.specs.Plan.{Item, Aim}
use Rattle.moka_hist.specs.Plan as plan
use Rattle.moka_hist.specs.Visits.{finds, makes}
use Rattle.moka_hist.specs.Conditions.{MayVisit}
use Rattle.moka_hist.specs.Tables.{Operates, begun}
use Rattle.moka_hist.specs.Bound.{times_of, stayed, decided_by, most_undecided}
use Rattle.moka_hist.specs.Next.{Next, goes, waits}
use Rattle.moka_hist.specs.Posting.{after_drain, after_post, after_turn, after_apply, after_end}
use Rattle.moka_hist.specs.Looking.{after_get, after_judge, after_holds}
use Rattle.moka_hist.specs.Loading.{after_own, after_read, after_ask, after_told, after_settle}
use Rattle.moka_hist.specs.Computing.{after_own_key, after_own_alone, after_read_key, after_ask_op, after_told_op}
use Rattle.moka_hist.specs.Listening.{after_lock, after_unlock, after_notice, after_hearing}
use Rattle.moka_hist.specs.Invalidating.{after_invalidate_all, after_register}
use Rattle.moka_hist.specs.Maintenance.{after_candidates, after_retire, after_strike}
use Rattle.moka_hist.specs.Walking.{after_list, after_find, after_scan}
use Rattle.moka_hist.specs.Writing.{after_moment, after_write, after_out, after_idle, stamp_asked}
use Rattle.moka_hist.specs.declared.loads.Kind.{Kind}
use Rattle.moka_hist.specs.declared.loads.Kind.TheVariants as kind
use Rattle.moka_hist.specs.declared.visits.Takes.{Takes}
use Rattle.moka_hist.specs.declared.visits.Takes.TheVariants as takes
use Rattle.moka_hist.specs.declared.visits.Visit.{Visit}
use Rattle.moka_hist.specs.declared.visits.Visit.TheVariants as visit
use Rattle.moka_hist.specs.declared.visits.Found.{Found}
use Rattle.moka_hist.specs.declared.tables.TableOp.{TableOp}
use Rattle.moka_hist.specs.declared.tables.TableOp.TheVariants as op
use Rattle.moka_hist.specs.declared.tables.TableTurn.{TableTurn}
use Rattle.moka_hist.specs.declared.tables.TableTurn.TheVariants as table
use Rattle.moka_hist.specs.declared.accesses.Want.{Want}
use Rattle.moka_hist.specs.declared.accesses.Want.TheVariants as want
use Rattle.moka_hist.specs.declared.accesses.Got.{Got}
use Rattle.moka_hist.specs.declared.accesses.Got.TheVariants as got
use Rattle.moka_hist.specs.declared.accesses.Turn.{Turn}
use Rattle.moka_hist.specs.declared.accesses.Turn.TheVariants as turns

-- what a call does to the world in one step: a step of a table operation, or a visit of the desk
pub data Access (K V E : Type 0) : Type 0 where
  On_table : (operation : TableOp K V) → Access K V E
  On_desk : (made : Visit K V E) → Access K V E

-- which answers the ask of a load takes
abbrev pub takes_of : Kind → Takes
takes_of kind.GetWith = takes.Value
takes_of kind.Optional = takes.Optional
takes_of kind.Try = takes.Try
takes_of kind.Compute = takes.Op

-- the test by which a look's call passes over what it finds
abbrev pub replace_of : {K V : Type 0} → Aim K V → Option ℕ
replace_of (plan.To_show form) = None
replace_of (plan.To_load sought) = sought.replace
replace_of (plan.To_own sought) = sought.replace
replace_of (plan.To_insert key value) = None
replace_of (plan.To_compute compute) = None
replace_of (plan.To_evict key stamp cause) = None

module _ {K V E : Type 0} where
  -- the access that an item needs, of a call that carries these predicates, if any
  abbrev pub access_for : ℕ → Option (List (ℕ × ℕ)) → Item K V E → Access K V E
  access_for n ids plan.Drain = On_desk (visit.TakeOwed n)
  access_for n ids (plan.Ended number) = On_desk (visit.NoticeEnded n number)
  access_for n ids (plan.Post write) = On_desk (visit.PostWrite n write)
  access_for n ids plan.Turn = On_desk (visit.TakeTurn n)
  access_for n ids plan.Apply = On_desk (visit.ApplyOne n)
  access_for n ids plan.End = On_desk (visit.EndTurn n)
  access_for n ids (plan.Get aim key) = On_table (op.Get key)
  access_for n ids (plan.Judge aim key stored) = On_desk (visit.Judge (replace_of aim) key stored)
  access_for n ids (plan.Own sought) = On_desk (visit.WaitOrOwn n sought.load.key sought.load.kind)
  access_for n ids (plan.Read sought) = On_desk (visit.ReadSettled n)
  access_for n ids (plan.Settle with) = On_desk (visit.Settle n with)
  access_for n ids (plan.Ask load) = On_desk (visit.OpenAsk n (takes_of load.kind))
  access_for n ids (plan.Told load) = On_desk (visit.TakeTold n)
  access_for n ids (plan.Own_key compute) =
      On_desk (visit.WaitOrOwn n compute.key kind.Compute)
  access_for n ids (plan.Own_alone key) = On_desk (visit.OwnAlone n key)
  access_for n ids (plan.Read_key compute) = On_desk (visit.ReadSettled n)
  access_for n ids (plan.Ask_op compute found) = On_desk (visit.OpenAsk n compute.takes)
  access_for n ids (plan.Told_op compute found) = On_desk (visit.TakeTold n)
  access_for n ids (plan.Lock key) = On_desk (visit.LockKey n key)
  access_for n ids (plan.Unlock wrote) = On_desk (visit.UnlockKey n wrote)
  access_for n ids (plan.Notice key old cause upsert) =
      On_desk (visit.OpenNotice n key old.value old.stamp old.modified cause upsert)
  access_for n ids plan.Heard = On_desk (visit.NoticeEnded n n)
  access_for n ids (plan.Holds key stamp cause there found) = On_desk (visit.Holds there found cause)
  access_for n ids (plan.Moment change) = On_desk (visit.StampMoment n)
  access_for n ids (plan.Write key value moment) =
      On_table (op.InsertOrModify key (record { value = value; stamp = n; modified = moment }))
  access_for n ids (plan.Out removal key) = On_table (op.RemoveIf key (stamp_asked removal))
  access_for n ids plan.Idle = On_desk (visit.Clock n)
  access_for n ids plan.Invalidate_all = On_desk visit.InvalidateAll
  access_for n ids (plan.Register test) = On_desk (visit.Register test)
  access_for n ids (plan.List_keys part) = On_table (op.Keys part)
  access_for n ids (plan.Find key) = On_table (op.Get key)
  access_for n ids (plan.Scan there found) = On_desk (visit.Scan there found)
  access_for n ids (plan.Candidates parts) = On_desk visit.Candidates
  access_for n ids (plan.Strike there found) =
      On_desk (visit.Strike (unwrap_or ids []) there found)
  access_for n ids plan.Retire = On_desk (visit.Retire (unwrap_or ids []))
  access_for n ids (plan.Reply answer) = On_desk (visit.Clock n)

  -- the access of a call's next step: that of its first item. Where nothing is left but an answer,
  -- it reads the clock
  abbrev pub access_of : ℕ → Call K V E → Access K V E
  access_of n c = by_plan c.plan
    where
      by_plan : List (Item K V E) → Access K V E
      by_plan [] = On_desk (visit.Clock n)
      by_plan (item ∷ rest) = access_for n c.carried item

  -- an access as it is wanted: an operation that was begun is gone on with
  abbrev pub want_for : Bool → Access K V E → Want K V E
  want_for false (On_table operation) = want.Begin operation
  want_for true (On_table operation) = want.Table
  want_for begun (On_desk made) = want.Desk made

  -- how a call goes on after a step of its table operation; no other item has one
  abbrev pub after_table : ℕ → Call K V E → Item K V E → List (Item K V E) → TableTurn K V →
      Next K V E
  after_table n c (plan.Get aim key) rest turn = after_get c aim turn
  after_table n c (plan.Write key value moment) rest turn = after_write n c key rest turn
  after_table n c (plan.Out removal key) rest turn = after_out n c removal key turn
  after_table n c (plan.List_keys part) rest turn = after_list c rest turn
  after_table n c (plan.Find key) rest turn = after_find c rest turn
  after_table n c _ rest turn = waits c

  -- How a call goes on after its visit. In each of these functions the last row is of what another
  -- visit finds: no run comes to it.
  abbrev pub after_visit : Call K V E → Item K V E → List (Item K V E) → Found V E → Next K V E
  after_visit c plan.Drain rest f = after_drain c rest f
  after_visit c (plan.Ended number) rest f = after_hearing c rest f
  after_visit c (plan.Post write) rest f = after_post c write rest f
  after_visit c plan.Turn rest f = after_turn c rest f
  after_visit c plan.Apply rest f = after_apply c rest f
  after_visit c plan.End rest f = after_end c rest f
  after_visit c (plan.Judge aim key stored) rest f = after_judge c aim key stored f
  after_visit c (plan.Own sought) rest f = after_own c sought f
  after_visit c (plan.Read sought) rest f = after_read c sought f
  after_visit c (plan.Settle with) rest f = after_settle c rest f
  after_visit c (plan.Ask load) rest f = after_ask c load f
  after_visit c (plan.Told load) rest f = after_told c load f
  after_visit c (plan.Own_key compute) rest f = after_own_key c compute f
  after_visit c (plan.Own_alone key) rest f = after_own_alone c key f
  after_visit c (plan.Read_key compute) rest f = after_read_key c compute f
  after_visit c (plan.Ask_op compute found) rest f = after_ask_op c compute found f
  after_visit c (plan.Told_op compute found) rest f = after_told_op c compute found f
  after_visit c (plan.Lock key) rest f = after_lock c rest f
  after_visit c (plan.Unlock wrote) rest f = after_unlock c rest f
  after_visit c (plan.Notice key old cause upsert) rest f = after_notice c key old rest f
  after_visit c plan.Heard rest f = after_hearing c rest f
  after_visit c (plan.Holds key stamp cause there found) rest f = after_holds c key stamp cause f
  after_visit c (plan.Moment change) rest f = after_moment c change rest f
  after_visit c (plan.Out removal key) rest f = waits c
  after_visit c plan.Idle rest f = after_idle c rest f
  after_visit c plan.Invalidate_all rest f = after_invalidate_all c rest f
  after_visit c (plan.Register test) rest f = after_register c f
  after_visit c (plan.List_keys part) rest f = waits c
  after_visit c (plan.Find key) rest f = waits c
  after_visit c (plan.Scan there found) rest f = after_scan c there found rest f
  after_visit c (plan.Candidates parts) rest f = after_candidates c parts f
  after_visit c (plan.Strike there found) rest f = after_strike c rest f
  after_visit c plan.Retire rest f = after_retire c f
  after_visit c (plan.Reply answer) rest f = goes c (plan.Reply answer ∷ [])
  after_visit c (plan.Get aim key) rest f = waits c
  after_visit c (plan.Write key value moment) rest f = waits c

  -- how a call goes on after its access gave this
  abbrev pub next_of : ℕ → Call K V E → Got K V E → Next K V E
  next_of n c g = by_plan c.plan g
    where
      by_plan : List (Item K V E) → Got K V E → Next K V E
      by_plan [] g = waits c
      by_plan (item ∷ rest) (got.Table turn) = after_table n c item rest turn
      by_plan (item ∷ rest) (got.Desk f) = after_visit c item rest f

  -- What the world may give the call of this number for an access, and become by it. A table
  -- operation may stay undecided, which leaves the map, but not for more steps in a row than its
  -- table may need. A list begins with its first step, undecided or not.
  abbrev pub Gets : (K → K → Bool) → ℕ → World K V E → Access K V E → Got K V E → World K V E →
      Type 0
  Gets eq n w (On_table operation) (got.Table table.Going) new =
      (times_of w.stay n < most_undecided w.table)
      × (new ≡ record w { table = begun w.table n operation; stay = stayed w.stay n })
  Gets eq n w (On_table operation) (got.Table (table.Decided answer)) new =
      (t : TablePart K V) × Operates eq n (begun w.table n operation) operation answer t
      × (new ≡ record w { table = t; stay = decided_by n })
  Gets eq n w (On_desk made) (got.Desk f) new =
      (f ≡ finds w.desk made) × (new ≡ record w { desk = makes eq w.desk made })
  Gets eq n w (On_table operation) (got.Desk f) new = ⊥
  Gets eq n w (On_desk made) (got.Table turn) new = ⊥

  -- the call's place after the step, in a world that the access made
  abbrev pub state_after : State K V E → ℕ → World K V E → Next K V E → State K V E
  state_after s n w next = record { world = w; calls = put_at s.calls n next.left }

  -- one step of the live call of this number
  pub record Step (eq : K → K → Bool) (s : State K V E) (n : ℕ) (turn : Turn K V E)
      (new : State K V E) : Type 0 where
    pub call : Call K V E
    pub live : s.calls n ≡ Some call
    pub given : Got K V E
    pub world : World K V E
    pub gets : Gets eq n s.world (access_of n call) given world
    pub turns : turn ≡ (next_of n call given).turn
    pub after : new ≡ state_after s n world (next_of n call given)

module _ {K V E : Type 0} where
  -- what the world must have for an access: what the desk must have for a visit
  abbrev pub May : World K V E → Access K V E → Type 0
  May w (On_desk made) = MayVisit w.desk made
  May w (On_table operation) = Unit {0}

  -- one step of a call by itself: how it goes on, and the world then
  pub record CallMoves (eq : K → K → Bool) (n : ℕ) (c : Call K V E) (w : World K V E)
      (next : Next K V E) (new : World K V E) : Type 0 where
    pub given : Got K V E
    pub gets : Gets eq n w (access_of n c) given new
    pub goes : next ≡ next_of n c given

  -- the call is still live, and goes on as d
  abbrev pub going_as : Call K V E → Next K V E
  going_as d = record { left = Some d; turn = turns.Going }

  -- k steps of a call by itself, each of which leaves it going
  unfoldable pub MovesOn : (K → K → Bool) → ℕ → ℕ → Call K V E → World K V E → Call K V E →
      World K V E → Type 0
  MovesOn eq zero n c w d new = (d ≡ c) × (new ≡ w)
  MovesOn eq (suc k) n c w d new =
      (b : Call K V E) × (mid : World K V E) × MovesOn eq k n c w b mid ×
      CallMoves eq n b mid (going_as d) new

  -- steps of a call by itself, all of which leave it going but the last, which doesn't
  pub record Polled (eq : K → K → Bool) (n : ℕ) (c : Call K V E) (w : World K V E)
      (next : Next K V E) (new : World K V E) : Type 0 where
    pub going : ℕ
    pub call : Call K V E
    pub mid : World K V E
    pub goes : MovesOn eq going n c w call mid
    pub last : CallMoves eq n call mid next new
    pub ends : next.turn ≢ turns.Going

  -- the world has what each step of the call needs, as long as it goes on by itself
  abbrev pub IsSafe : (K → K → Bool) → ℕ → Call K V E → World K V E → Type 0
  IsSafe eq n c w =
      (k : ℕ) (d : Call K V E) (mid : World K V E) → MovesOn eq k n c w d mid →
      May mid (access_of n d)

  -- accesses with what they gave, by which the call goes on from c to d, always going
  abbrev pub LeadsAlong : ℕ → Call K V E → List (Access K V E × Got K V E) → Call K V E → Type 0
  LeadsAlong n c [] d = d ≡ c
  LeadsAlong n c (made ∷ more) d =
      (mid : Call K V E) × (made.0 ≡ access_of n c) × (next_of n c made.1 ≡ going_as mid) ×
      LeadsAlong n mid more d
