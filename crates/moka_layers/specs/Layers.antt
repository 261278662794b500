-- What the layers of a cache stand for.
use Rattle.std.specs.Prelude.{◌≡◌, ◌≢◌, ◌≤◌, ℕ, ◌+◌, Bool, List, Option, None, IfSome}
use Rattle.std.specs.Prelude.{IsSome}
use Rattle.std.specs.Option.{option_and_then, option_map_or}
use Rattle.std.specs.declared.cmp.PartialEq as PartialEq
use Rattle.std.specs.declared.hash.Hash as Hash
use Rattle.std.specs.declared.hash.Hasher as Hasher
use Rattle.std.specs.declared.hash.BuildHasher as BuildHasher
use Rattle.moka_hist.specs.Bound.{times_of, most_undecided}
use Rattle.moka_hist.specs.State.{Stay, TablePart, World}
use Rattle.moka_hist.specs.Step.{Access, On_table, On_desk, Gets, May}
use Rattle.moka_hist.specs.declared.record_tests.Tests as Tests
use Rattle.moka_hist.specs.declared.tables.TableOp.{TableOp}
use Rattle.moka_hist.specs.declared.accesses.Got.{Got}
use Rattle.moka_hist.specs.declared.accesses.Got.TheVariants as got
use Rattle.moka_hist.specs.declared.tables.TableTurn.TheVariants as table
use Rattle.moka_hist.specs.declared.accesses.Want.{Want}
use Rattle.moka_bound.specs.Ahead.{Work}
use Rattle.moka_table.specs.Map.{most_steps}
use Rattle.moka_table.specs.declared.table.Table as Table
use Rattle.moka_desk.specs.StandsFor as desk
use Rattle.moka_desk.specs.Sizes.{owed_in, logged_in, room_in, has_ended}
use Rattle.moka_init.specs.Grounds.{Account, MayWant, nothing_told}
use Rattle.moka_layers.specs.Handing.{IsHanded, handed_by, ids_of}
use Rattle.moka_layers.specs.Listings.{ListingIs}
use Rattle.moka_layers.specs.Visiting.{handed_out}
use Rattle.moka_layers.specs.declared.layers.Layers.{Layers}

-- The table has the map, and as many keys. It never had more than the reference's, and its first
-- array was no longer than the reference allows.
pub record TableIs {K V T C : Type 0} (t : Table.Ghosts T K V C) (table : T)
    (part : TablePart K V) : Type 0 where
  pub map : (q : K) → t.map table q ≡ part.stored q
  pub keys : t.count table ≡ part.keys
  pub peak : t.peak table ≤ part.peak
  pub first : t.first table ≡ 128
  -- and its keys are divided alike
  pub parts : t.divided table ≡ part.division.parts
  pub part_of : (q : K) → t.part_of table q ≡ part.division.part_of q

module _ {K V T C : Type 0} where
  -- the operation that was begun and hasn't decided
  abbrev pub operation_in : Table.Ghosts T K V C → Option C → Option (TableOp K V)
  operation_in t begun = option_and_then t.operation_of begun

  -- at most so many steps an operation makes by itself on the table as it is
  abbrev pub most_on : Table.Ghosts T K V C → T → ℕ
  most_on t table = most_steps (t.first table) (t.peak table)

  -- for how many steps the operation that was begun may still stay undecided, or else the next one
  abbrev pub left_in : Table.Ghosts T K V C → T → Option C → ℕ
  left_in t table begun = option_map_or (λ c. t.left table c) begun (most_on t table)

-- Each step of an operation on such tables decides it: a step that leaves one undecided brings it
-- nearer to its end, and there none is nearer than another.
abbrev pub AlwaysDecides : {K V T C : Type 0} → Table.Ghosts T K V C → Type 0
AlwaysDecides {K} {V} {T} {C} t = (n : ℕ) × ((table : T) (call : C) → t.left table call ≡ n)

-- What a call has begun on the table: it may go on with it, and does so for no longer than the
-- reference allows. A list that it has begun is the reference's.
pub record BegunIs {K V T C : Type 0} (t : Table.Ghosts T K V C) (table : T) (call : ℕ)
    (begun : Option C) (part : TablePart K V) (stay : Stay) : Type 0 where
  pub fits : IfSome begun (λ c. t.fits table c × IsSome (t.operation_of c))
  pub within : left_in t table begun ≤ most_on t table
  pub patient : times_of stay call + left_in t table begun ≤ most_undecided part
  pub listing : ListingIs t table begun part (part.listings call)

-- Table and desk are those of the world, and the layers were handed what its desk was. Who made its
-- last step on the table had a number given out.
pub record WorldIs {K V E T C Q S H : Type 0} {same : PartialEq.Ghosts K} {hash : Hash.Ghosts K}
    {build : BuildHasher.Ghosts S H} {hasher : Hasher.Ghosts H}
    (eq : K → K → Bool) (t : Table.Ghosts T K V C) (q : Tests.Ghosts Q K V)
    (layers : Layers K V E T C Q S H same hash build hasher)
    (w : World K V E) : Type 0 where
  pub table : TableIs t layers.table w.table
  pub desk : desk.StandsFor eq layers.desk w.desk
  pub handed : IsHanded (handed_by q layers.tests (ids_of layers.ids)) w.desk
  pub stay : w.stay.call ≤ w.desk.last

-- They are so for the call that reaches them, with what it has begun.
pub record GroundIs {K V E T C Q S H : Type 0} {same : PartialEq.Ghosts K} {hash : Hash.Ghosts K}
    {build : BuildHasher.Ghosts S H} {hasher : Hasher.Ghosts H}
    (eq : K → K → Bool) (t : Table.Ghosts T K V C) (q : Tests.Ghosts Q K V)
    (layers : Layers K V E T C Q S H same hash build hasher)
    (w : World K V E) : Type 0 where
  pub world : WorldIs eq t q layers w
  pub begun : BegunIs t layers.table layers.call layers.begun w.table w.stay
  pub given : layers.call ≤ w.desk.last

module _ {K V E T C Q S H : Type 0} {same : PartialEq.Ghosts K} {hash : Hash.Ghosts K}
    {build : BuildHasher.Ghosts S H} {hasher : Hasher.Ghosts H} where
  -- what is before the call there
  abbrev pub work_of : Table.Ghosts T K V C → Layers K V E T C Q S H same hash build hasher → Work
  work_of t layers = record {
    owed = owed_in layers.desk;
    logged = logged_in layers.desk;
    size = room_in layers.desk;
    left = left_in t layers.table layers.begun;
    most = most_on t layers.table;
    ended = has_ended layers.desk layers.call;
    keys = 0;
  }

  -- what the layers tell of themselves; the accesses that were made they don't tell
  abbrev pub account_of : Table.Ghosts T K V C → Layers K V E T C Q S H same hash build hasher →
      Account K V E
  account_of t layers = record {
    call = layers.call;
    begun = operation_in t layers.begun;
    made = nothing_told K V E;
    work = work_of t layers;
  }

  -- some world that they stand for allows what is wanted
  abbrev pub Allows : (K → K → Bool) → Table.Ghosts T K V C → Tests.Ghosts Q K V
      → Layers K V E T C Q S H same hash build hasher → Want K V E → Type 0
  Allows eq t q layers wish = (w : World K V E) × GroundIs eq t q layers w
      × MayWant w (operation_in t layers.begun) wish

  -- what other calls have begun there they may still go on with
  abbrev pub OthersStay : Table.Ghosts T K V C → Layers K V E T C Q S H same hash build hasher →
      World K V E
      → Layers K V E T C Q S H same hash build hasher → World K V E → Type 0
  OthersStay t old w new after =
      (n : ℕ) (begun : Option C) → old.call ≢ n → BegunIs t old.table n begun w.table w.stay
      → BegunIs t new.table n begun after.table after.stay

  -- the access gave this, and made its change to each world that the layers stood for and that
  -- allows it
  abbrev pub Serves : (K → K → Bool) → Table.Ghosts T K V C → Tests.Ghosts Q K V
      → Layers K V E T C Q S H same hash build hasher → Access K V E → Got K V E →
      Layers K V E T C Q S H same hash build hasher
      → Type 0
  Serves eq t q old access given new =
      (w : World K V E) → GroundIs eq t q old w → May w access
      → (after : World K V E) × Gets eq old.call w access given after × GroundIs eq t q new after
      × OthersStay t old w new after

  -- the access decided, where the table always does, and nothing is begun then
  abbrev pub Decides : Table.Ghosts T K V C → Got K V E →
      Layers K V E T C Q S H same hash build hasher → Type 0
  Decides t given new =
      AlwaysDecides t → (given ≢ got.Table table.Going) × (new.begun ≡ None)

  -- the calls that are handed out once the access was made: those of its visit
  abbrev pub handed_for : Layers K V E T C Q S H same hash build hasher → Access K V E →
      Option (List ℕ)
      → Option (List ℕ)
  handed_for layers (On_table operation) before = before
  handed_for layers (On_desk made) before = handed_out layers.desk made before

  -- the layers stand for what they stood for
  abbrev pub LayersStay : (K → K → Bool) → Table.Ghosts T K V C → Tests.Ghosts Q K V
      → Layers K V E T C Q S H same hash build hasher →
      Layers K V E T C Q S H same hash build hasher → Type 0
  LayersStay eq t q old new =
      (w : World K V E) → GroundIs eq t q old w → GroundIs eq t q new w × OthersStay t old w new w
