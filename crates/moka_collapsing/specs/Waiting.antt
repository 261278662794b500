-- The requests that wait for one upstream request, and the calls of the cache behind them.
use Rattle.std.specs.Prelude.{ℕ, ◌==◌, Bool, false, cond, List, [], ◌∷◌, length, Option, Some, None, is_some}
use Rattle.std.specs.Option.{option_map_or}
use Rattle.std.specs.Map.{lookup}
use Rattle.std.specs.BTreeMap.{insert_entry, is_at}
use Rattle.std.specs.Ordering.{nat_cmp}
use Rattle.moka_collapsing.specs.declared.slot.Place.{Place}
use Rattle.moka_collapsing.specs.Upstream.{Waiter, without}

-- The call that asks, and the requests that wait, by their numbers. The first of them has that call;
-- each other has the call of its own number, which waits for that one.
pub record Waiting : Type 0 where
  pub asking : ℕ
  pub requests : List Waiter

-- the request of this number waits here, if it does
abbrev pub place_of : List Waiter → ℕ → Option Place
place_of requests number = lookup (is_at (nat_cmp number)) requests

-- the number of the first
abbrev pub first_of : List Waiter → Option ℕ
first_of [] = None
first_of (waiter ∷ waiters) = Some waiter.0

-- the request of this number is the first
abbrev pub is_first : List Waiter → ℕ → Bool
is_first requests number = option_map_or (λ n. n == number) (first_of requests) false

-- the call that asks has this one's place as soon as it is handed over: the call of the next
-- request, or itself where none is left
abbrev pub next_call : Waiting → Option ℕ → ℕ
next_call w None = w.asking
next_call w (Some number) = number

-- The call that nobody needs once the request of this number has left. Where it was the first, its
-- call is handed over to the next, whose own call is freed.
abbrev pub freed : Waiting → ℕ → Option ℕ
freed w number =
    cond (is_some (place_of w.requests number))
    (Some (cond (is_first w.requests number)
    (next_call w (first_of (without number w.requests))) number))
    None

-- the list with one request more
abbrev pub with_waiter : ℕ → Place → Waiting → Waiting
with_waiter number place w =
    record w { requests = insert_entry nat_cmp w.requests number place }

-- the list without the request of this number
abbrev pub less_waiter : ℕ → Waiting → Waiting
less_waiter number w = record w { requests = without number w.requests }

-- nobody waits on it
abbrev pub is_left_empty : Waiting → Bool
is_left_empty w = length w.requests == 0

-- and none where that leaves it empty
abbrev pub unless_empty : Waiting → Option Waiting
unless_empty w = cond (is_left_empty w) None (Some w)

abbrev pub without_waiter : ℕ → Waiting → Option Waiting
without_waiter number w = unless_empty (less_waiter number w)
