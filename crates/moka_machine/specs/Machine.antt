-- What a machine stands for, and what its calls do.
use Rattle.std.specs.Prelude.{◌≡◌, ◌≢◌, ◌≤◌, ℕ, Bool, true, Option, Some, None}
use Rattle.std.specs.Option.{option_map}
use Rattle.std.specs.declared.cmp.PartialEq as PartialEq
use Rattle.std.specs.declared.hash.Hash as Hash
use Rattle.moka_hist.specs.State.{Call, State, Stay, TablePart, World}
use Rattle.moka_hist.specs.Bound.{as_told}
use Rattle.moka_hist.specs.Finite.{put_at}
use Rattle.moka_hist.specs.Next.{Next}
use Rattle.moka_hist.specs.Step.{May, CallMoves, MovesOn, Polled, IsSafe, access_of}
use Rattle.moka_hist.specs.Run.{Any, Goings, Happens, IsReached, reply_of}
use Rattle.moka_hist.specs.declared.accesses.Want.{Want}
use Rattle.moka_hist.specs.declared.events.Event.{Event}
use Rattle.moka_hist.specs.declared.events.Event.TheVariants as event
use Rattle.moka_hist.specs.declared.replies.Reply.{Reply}
use Rattle.moka_hist.specs.declared.record_tests.Tests as Tests
use Rattle.moka_desk.specs.History.{keeps_history}
use Rattle.moka_init.specs.declared.flow.Flow.{Flow}
use Rattle.moka_init.specs.FlowPlan.{call_of, IsLive}
use Rattle.moka_init.specs.Grounds.{HasBegun, IsOn, MayWant, access_at}
use Rattle.moka_layers.specs.Needing.{StepNeedsMemory}
use Rattle.moka_layers.specs.Layers.{BegunIs, GroundIs, WorldIs, account_of, operation_in}
use Rattle.moka_machine.specs.Calls.{running_at, place_at, IsUsed}
use Rattle.moka_machine.specs.TheTable.{TheTable, the_table}
use Rattle.moka_machine.specs.declared.call_places.Running.{Running}
use Rattle.moka_machine.specs.declared.machine.Machine.{Machine}

module _ {K V E : Type 0} where
  -- the call that runs
  abbrev pub call_in : Running K V E → Call K V E
  call_in r = call_of r.flow.value

  -- so many steps were made of the event, which is a poll, each of which left its call going,
  -- through states that meet P; nothing of any other event, or where there is none
  abbrev pub BeginsEvent : (K → K → Bool) → (State K V E → Type 0) → State K V E
      → Option (Event K V E) → ℕ → State K V E → Type 0
  BeginsEvent eq P s (Some (event.Poll n)) steps t =
      (made : ℕ) × (steps ≡ as_told made) × Goings eq P made s n t
  BeginsEvent eq P s _ steps t = (steps ≡ 0) × (t ≡ s)

-- The running call is of this number, which was given out. It has something left to do, and may go
-- on with what it has begun on the table.
pub record IsOf {K V E : Type 0} (eq : K → K → Bool) (table : TheTable K V) (part : TablePart K V)
    (stay : Stay) (last n : ℕ) (r : Running K V E) : Type 0 where
  pub number : r.flow.value.call ≡ n
  pub live : IsLive r.flow.value
  pub on : HasBegun (operation_in (the_table eq) r.begun) r.flow.value
  pub begun : BegunIs (the_table eq) table n r.begun part stay
  pub given : n ≤ last

module _ {K V E T : Type 0} {same : PartialEq.Ghosts K} {hash : Hash.Ghosts K} where
  -- each call that runs is that of its number
  abbrev pub EachIsOf : (K → K → Bool) → Machine K V E T same hash → World K V E → Type 0
  EachIsOf eq m w =
      (n : ℕ) (r : Running K V E) → running_at m.calls n ≡ Some r
      → IsOf eq m.layers.table w.table w.stay w.desk.last n r

-- The machine stands for the state: its layers for the world, its running calls for the live ones.
-- It keeps a place for no other call. Its desk keeps a history.
pub record MachineIs {K V E T : Type 0} {same : PartialEq.Ghosts K} {hash : Hash.Ghosts K}
    (eq : K → K → Bool) (q : Tests.Ghosts T K V) (m : Machine K V E T same hash)
    (s : State K V E) : Type 0 where
  pub world : WorldIs eq (the_table eq) q m.layers s.world
  pub calls : (n : ℕ) → option_map call_in (running_at m.calls n) ≡ s.calls n
  pub each : EachIsOf eq m s.world
  pub used : (n : ℕ) → IsUsed (place_at m.calls n)
  pub history : keeps_history m.layers.desk ≡ true

-- The machine stands for the world as the call reaches it that was taken out.
pub record Reaches {K V E T : Type 0} {same : PartialEq.Ghosts K} {hash : Hash.Ghosts K}
    (eq : K → K → Bool) (q : Tests.Ghosts T K V) (m : Machine K V E T same hash)
    (w : World K V E) : Type 0 where
  pub layers : GroundIs eq (the_table eq) q m.layers w
  pub out : running_at m.calls m.layers.call ≡ None
  pub each : EachIsOf eq m w
  pub used : (n : ℕ) → m.layers.call ≢ n → IsUsed (place_at m.calls n)
  pub history : keeps_history m.layers.desk ≡ true

-- The call of this number was taken out of the machine. It reaches the world, and the other calls
-- are these.
pub record Without {K V E T : Type 0} {same : PartialEq.Ghosts K} {hash : Hash.Ghosts K}
    (eq : K → K → Bool) (q : Tests.Ghosts T K V) (m : Machine K V E T same hash) (n : ℕ)
    (others : ℕ → Option (Call K V E)) (w : World K V E) : Type 0 where
  pub reaches : Reaches eq q m w
  pub number : m.layers.call ≡ n
  pub calls : (k : ℕ) → n ≢ k → option_map call_in (running_at m.calls k) ≡ others k

module _ {K V E T : Type 0} {same : PartialEq.Ghosts K} {hash : Hash.Ghosts K} where
  -- the machine stands for a state that a run can reach
  pub record IsValid (eq : K → K → Bool) (q : Tests.Ghosts T K V)
      (m : Machine K V E T same hash) : Type 0 where
    pub state : State K V E
    pub stands : MachineIs eq q m state
    pub reached : IsReached eq state

  -- the live call of this number is taken out of the state that the machine stood for
  pub record TakenOut (eq : K → K → Bool) (q : Tests.Ghosts T K V)
      (m : Machine K V E T same hash) (n : ℕ) (flow : Flow K V E) (s : State K V E) : Type 0 where
    pub live : s.calls n ≡ Some (call_of flow)
    pub rest : Without eq q m n s.calls s.world

  -- some world that the call reaches allows what is wanted
  abbrev pub AllowsEvent : (K → K → Bool) → Tests.Ghosts T K V → Machine K V E T same hash
      → Want K V E → Type 0
  AllowsEvent eq q m wish =
      (w : World K V E) × Reaches eq q m w
      × MayWant w (operation_in (the_table eq) m.layers.begun) wish

  -- this flow is that of the call that was taken out, which has something left to do
  pub record IsOut (eq : K → K → Bool) (m : Machine K V E T same hash) (flow : Flow K V E)
      : Type 0 where
    pub on : IsOn (account_of (the_table eq) m.layers) flow
    pub live : IsLive flow

  -- the event was carried out or refused with this reply, from whatever state the machine stood for
  abbrev pub ServesEvent : (K → K → Bool) → Tests.Ghosts T K V → Machine K V E T same hash
      → Event K V E → Reply K V E → Machine K V E T same hash → Type 0
  ServesEvent eq q old e r new =
      (s : State K V E) → MachineIs eq q old s → IsReached eq s
      → (t : State K V E) × Happens eq Any s e r t × MachineIs eq q new t

  -- nothing has changed
  abbrev pub KeepsState : (K → K → Bool) → Tests.Ghosts T K V → Machine K V E T same hash
      → Machine K V E T same hash → Type 0
  KeepsState eq q old new = (s : State K V E) → MachineIs eq q old s → MachineIs eq q new s

  -- want of memory came with the event, and this much of it was done
  abbrev pub Stops : (K → K → Bool) → Tests.Ghosts T K V → Machine K V E T same hash
      → Event K V E → ℕ → Machine K V E T same hash → Type 0
  Stops eq q old e steps new =
      (s : State K V E) → MachineIs eq q old s → IsReached eq s
      → (t : State K V E) × BeginsEvent eq Any s (Some e) steps t × MachineIs eq q new t

  -- a step of a call that was taken out: the call made it, and was put back or has ended
  abbrev pub StepOut : (K → K → Bool) → Tests.Ghosts T K V → Machine K V E T same hash → ℕ
      → Flow K V E → Reply K V E → Machine K V E T same hash → Type 0
  StepOut eq q old n flow r new =
      (others : ℕ → Option (Call K V E)) (w : World K V E)
      → Without eq q old n others w → May w (access_at flow)
      → (next : Next K V E) × (after : World K V E)
      × CallMoves eq n (call_of flow) w next after × (r ≡ reply_of next.turn)
      × MachineIs eq q new (record { world = after; calls = put_at others n next.left })

  -- the call that was taken out was put back as it was
  abbrev pub KeepsOut : (K → K → Bool) → Tests.Ghosts T K V → Machine K V E T same hash → ℕ
      → Flow K V E → Machine K V E T same hash → Type 0
  KeepsOut eq q old n flow new =
      (others : ℕ → Option (Call K V E)) (w : World K V E) → Without eq q old n others w
      → MachineIs eq q new (record { world = w; calls = put_at others n (Some (call_of flow)) })

  -- a poll of a call that was taken out
  abbrev pub PollOut : (K → K → Bool) → Tests.Ghosts T K V → Machine K V E T same hash → ℕ
      → Flow K V E → Reply K V E → Machine K V E T same hash → Type 0
  PollOut eq q old n flow r new =
      (others : ℕ → Option (Call K V E)) (w : World K V E)
      → Without eq q old n others w → IsSafe eq n (call_of flow) w
      → (next : Next K V E) × (after : World K V E)
      × Polled eq n (call_of flow) w next after × (r ≡ reply_of next.turn)
      × MachineIs eq q new (record { world = after; calls = put_at others n next.left })

  -- so many steps of a call that was taken out, each of which left it going, up to an access that
  -- needs memory
  abbrev pub UnfinishedOut : (K → K → Bool) → Tests.Ghosts T K V → Machine K V E T same hash
      → ℕ → Flow K V E → ℕ → Machine K V E T same hash → Type 0
  UnfinishedOut eq q old n flow steps new =
      (made : ℕ) × (steps ≡ as_told made)
      × ((others : ℕ → Option (Call K V E)) (w : World K V E)
      → Without eq q old n others w → IsSafe eq n (call_of flow) w
      → (d : Call K V E) × (after : World K V E) × MovesOn eq made n (call_of flow) w d after
      × MachineIs eq q new (record { world = after; calls = put_at others n (Some d) })
      × StepNeedsMemory after (access_of n d))
