-- When two states are alike, and which events ask for no single step and for no walk.
use Rattle.std.specs.Prelude.{◌≡◌, ℕ, Bool, Some}
use Rattle.moka_hist.specs.State.{Call, State}
use Rattle.moka_hist.specs.declared.events.Event.{Event}
use Rattle.moka_hist.specs.declared.events.Event.TheVariants as event
use Rattle.moka_hist.specs.declared.events.Start.{Start}
use Rattle.moka_hist.specs.declared.events.Start.TheVariants as start
use Rattle.moka_laws.specs.Starting.{WasStarted}

module _ {K V E : Type 0} where
  -- The states are equal but for how often in a row an operation has stayed undecided.
  pub record Alike (s t : State K V E) : Type 0 where
    pub table : t.world.table ≡ s.world.table
    pub desk : t.world.desk ≡ s.world.desk
    pub calls : t.calls ≡ s.calls

-- the call is started for something else than a walk
abbrev pub IsNoWalk : {K V : Type 0} → Start K V → Type 0
IsNoWalk start.Iter = ⊥
IsNoWalk _ = Unit {0}

module _ {K V E : Type 0} where
  -- the event isn't a single step, and starts no walk
  abbrev pub IsWhole : Event K V E → Type 0
  IsWhole (event.At moment) = Unit {0}
  IsWhole (event.Start begin) = IsNoWalk begin
  IsWhole (event.Step call) = ⊥
  IsWhole (event.Poll call) = Unit {0}
  IsWhole (event.Tell call answer) = Unit {0}
  IsWhole (event.Drop call) = Unit {0}

  -- no live call was started as a walk
  abbrev pub HasNoWalk : (K → K → Bool) → State K V E → Type 0
  HasNoWalk eq s =
      (n : ℕ) (c : Call K V E) → s.calls n ≡ Some c → WasStarted eq start.Iter n s → ⊥
