-- Which calls have a waker.
use Rattle.std.specs.Prelude.{◌≡◌, ℕ, Bool, true, Option, Some, None, is_some, nat_eq}
use Rattle.std.specs.HashMap.{get}
use Rattle.futures.specs.declared.task.context.Context.{Context}
use Rattle.moka_kept.specs.declared.parked.Parked.{Parked}
use Rattle.moka_kept.specs.declared.parked.ParkedTask.{ParkedTask}

-- the call has a place with its waker
abbrev pub is_parked : Parked → ℕ → Bool
is_parked parked call = is_some (get nat_eq parked.places call)

-- the task that was parked is that of the call of this number; where none was, the poll has asked
-- for another
abbrev pub IsOwn : Option ParkedTask → ℕ → Context → Type 0
IsOwn (Some task) n cx = task.call ≡ n
IsOwn None n cx = cx.is_woken ≡ true
