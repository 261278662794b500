-- What a turn of a poll leaves of who is asked, and of the task's context.
use Rattle.std.specs.Prelude.{Bool, Option, IfSome}
use Rattle.futures.specs.Poll.{OnPending}
use Rattle.futures.specs.Task.{IsArmed, Keeps}
use Rattle.futures.specs.declared.task.Poll.{Poll}
use Rattle.futures.specs.declared.task.context.Context.{Context}
use Rattle.moka_hist.specs.declared.events.Told.{Told}

-- Who is asked can still be polled, and may give no other answer, nor its replace test.
pub record AskedStays {Q V E : Type 0} (can_poll : Q → Type 0) (gives : Q → Told V E → Type 0)
    (tests : Q → V → Bool → Type 0) (old new : Q) : Type 0 where
  pub asks : can_poll new
  pub same : (told : Told V E) → gives new told → gives old told
  pub tested : (value : V) (replaced : Bool) → tests new value replaced → tests old value replaced

-- The context stays that of its task, with all that was registered there. Where the poll is over by
-- this, and pends, the task is to be woken.
pub record ContextStays {A : Type 0} (old new : Context) (over : Option (Poll A)) : Type 0 where
  pub kept : Keeps old new
  pub armed : IfSome over (λ poll. OnPending poll (IsArmed new))
