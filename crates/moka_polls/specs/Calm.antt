-- Calm states: no call is on its way, so that each poll begins anew.
use Rattle.std.specs.Prelude.{◌≡◌, ◌≢◌, ℕ, Bool, false, List, [], ◌∷◌, Some, None, ◌⊎◌}
use Rattle.moka_hist.specs.State.{Call, Division, State, fresh, Handed}
use Rattle.moka_hist.specs.Plan.{Item, is_disabled, pending_plan}
use Rattle.moka_hist.specs.Plan as plan
use Rattle.moka_hist.specs.Run.{Any, Happens}
use Rattle.moka_hist.specs.declared.events.Event.{Event}
use Rattle.moka_hist.specs.declared.events.Event.TheVariants as event
use Rattle.moka_hist.specs.declared.records.Mode.TheVariants as mode
use Rattle.moka_hist.specs.declared.replies.Reply.{Reply}
use Rattle.moka_hist.specs.declared.rules.Rules.{Rules}
use Rattle.moka_polls.specs.Polls.{IsQuiet}

module _ {K V E : Type 0} where
  -- the item has no part in posting a write, in applying the log, in a lock or in a notice
  abbrev pub IsApart : Item K V E → Type 0
  IsApart (plan.Ended number) = ⊥
  IsApart (plan.Post write) = ⊥
  IsApart plan.Turn = ⊥
  IsApart plan.Apply = ⊥
  IsApart plan.End = ⊥
  IsApart (plan.Lock key) = ⊥
  IsApart (plan.Unlock wrote) = ⊥
  IsApart (plan.Notice key old cause upsert) = ⊥
  IsApart plan.Heard = ⊥
  IsApart _ = Unit {0}

  -- a call with this still to do holds no write, no turn and no lock, and tells the listener of
  -- nothing
  abbrev pub HoldsNothing : List (Item K V E) → Type 0
  HoldsNothing [] = Unit {0}
  HoldsNothing (item ∷ rest) = IsApart item × HoldsNothing rest

  -- so does maintenance that has not begun: it will take the turn, and end it
  abbrev pub RestsWith : List (Item K V E) → Type 0
  RestsWith p = HoldsNothing p ⊎ ((parts : ℕ) × (p ≡ pending_plan false parts))

  -- a call of a cache of these rules that is not between two steps, and holds nothing
  pub record IsAtRest (these : Rules) (c : Call K V E) : Type 0 where
    pub rules : c.rules ≡ these
    pub mode : c.mode ≢ mode.Mid
    pub plan : RestsWith c.plan

  -- no listener is set, nobody has the maintenance turn, no write is owed, and each live call is at
  -- rest
  pub record IsCalm (s : State K V E) : Type 0 where
    pub unheard : s.world.desk.rules.listener ≡ false
    pub free : s.world.desk.turn ≡ None
    pub owes : s.world.desk.owed ≡ []
    pub rest : (n : ℕ) (c : Call K V E) → s.calls n ≡ Some c → IsAtRest s.world.desk.rules c

  -- the event is no single step
  abbrev pub IsWhole : Event K V E → Type 0
  IsWhole (event.Step n) = ⊥
  IsWhole _ = Unit {0}

-- a fresh cache without a listener is calm
abbrev pub FreshIsCalm : (K V E : Type 0) → Type 0
FreshIsCalm K V E =
    (division : Division K) (rules : Rules) (size : ℕ) (built : Handed K V) →
    rules.listener ≡ false → IsCalm (fresh K V E division rules size built)

-- each event but a single step leaves a calm state calm
abbrev pub StaysCalm : (K V E : Type 0) → (K → K → Bool) → Type 0
StaysCalm K V E eq =
    (s new : State K V E) (e : Event K V E) (r : Reply K V E) →
    IsCalm s → IsWhole e → Happens eq Any s e r new → IsCalm new

-- a calm cache of another capacity than 0 is quiet
abbrev pub CalmIsQuiet : (K V E : Type 0) → Type 0
CalmIsQuiet K V E =
    (s : State K V E) → IsCalm s → is_disabled s.world.desk.rules ≡ false → IsQuiet s.world.desk
