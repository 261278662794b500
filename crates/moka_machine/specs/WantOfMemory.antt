-- In which events memory may be wanting.
use Rattle.std.specs.Prelude.{MatchOption, ℕ}
use Rattle.moka_hist.specs.State.{State}
use Rattle.moka_hist.specs.Step.{access_of}
use Rattle.moka_hist.specs.declared.events.Event.{Event}
use Rattle.moka_hist.specs.declared.events.Event.TheVariants as event
use Rattle.moka_hist.specs.declared.events.Op.{Op}
use Rattle.moka_hist.specs.declared.events.Op.TheVariants as op
use Rattle.moka_hist.specs.declared.events.Told.{Told}
use Rattle.moka_hist.specs.declared.events.Told.TheVariants as told
use Rattle.moka_layers.specs.Needing.{StepNeedsMemory}

-- memory may be wanting to tell a compute this: a value is copied
abbrev pub OpNeedsMemory : {V : Type 0} → Op V → Type 0
OpNeedsMemory op.Nop = ⊥
OpNeedsMemory (op.Put value) = Unit {0}
OpNeedsMemory op.Remove = ⊥

module _ {V E : Type 0} where
  -- memory may be wanting to tell this: a value or an error is copied
  abbrev pub ToldNeedsMemory : Told V E → Type 0
  ToldNeedsMemory (told.Value value) = Unit {0}
  ToldNeedsMemory told.Nothing = ⊥
  ToldNeedsMemory (told.Err error) = Unit {0}
  ToldNeedsMemory (told.Op op) = OpNeedsMemory op
  ToldNeedsMemory told.Done = ⊥
  ToldNeedsMemory told.Off = ⊥

module _ {K V E : Type 0} where
  -- the call is live, and memory may be wanting for the access at which it stands
  abbrev pub CallNeedsMemory : State K V E → ℕ → Type 0
  CallNeedsMemory s n = MatchOption (s.calls n) ⊥ (λ c. StepNeedsMemory s.world (access_of n c))

  -- Memory may be wanting in such an event in this state. In a step or a poll it may only where the
  -- call stands at an access that needs some: none is needed to take up what is owed or told, to
  -- free a lock, to post a write and to apply the log, nor to take a turn that is free, to hear of a
  -- notice that has ended, or to read how an owner ended that left neither a value nor an error, or
  -- that it has not ended. Nor is any needed to tell an answer that is handed in.
  abbrev pub MayStopIn : State K V E → Event K V E → Type 0
  MayStopIn s (event.At moment) = ⊥
  MayStopIn s (event.Start start) = Unit {0}
  MayStopIn s (event.Step n) = CallNeedsMemory s n
  MayStopIn s (event.Poll n) = CallNeedsMemory s n
  MayStopIn s (event.Tell n answer) = ⊥
  MayStopIn s (event.Drop n) = ⊥

  -- and where the event's answer, if it tells one, is copied first
  abbrev pub MayStopServing : State K V E → Event K V E → Type 0
  MayStopServing s (event.At moment) = ⊥
  MayStopServing s (event.Start start) = MayStopIn s (event.Start start)
  MayStopServing s (event.Step n) = MayStopIn s (event.Step n)
  MayStopServing s (event.Poll n) = MayStopIn s (event.Poll n)
  MayStopServing s (event.Tell n answer) = ToldNeedsMemory answer
  MayStopServing s (event.Drop n) = ⊥
