-- The tickets of calls: of the first of them, and of the others.
use Rattle.std.specs.Prelude.{ℕ, ◌+◌, ◌-◌, Option, None, Some, cond, nat_eq}
use Rattle.std.specs.HashMap.{get, hash_map_len, spare}
use Rattle.moka_sync.specs.declared.tickets.Held.{Held}
use Rattle.moka_sync.specs.declared.tickets.Tickets.{Tickets}

-- the ticket of the call, where another list says what the others have
abbrev pub held_or : Option Held → ℕ → Option ℕ → Option ℕ
held_or None call other = other
held_or (Some held) call other = cond (nat_eq held.call call) (Some held.ticket) other

-- how many have the first ticket
abbrev pub count_of : Option Held → ℕ
count_of None = 0
count_of (Some held) = 1

-- the ticket of the call, if it has one
abbrev pub ticket_of : Tickets → ℕ → Option ℕ
ticket_of tickets call = held_or tickets.first call (get nat_eq tickets.others call)

-- how many calls have a ticket
abbrev pub tickets_len : Tickets → ℕ
tickets_len tickets = hash_map_len tickets.others + count_of tickets.first

-- how many further tickets can be given without memory
abbrev pub tickets_room : Tickets → ℕ
tickets_room tickets = spare tickets.others + (1 - count_of tickets.first)
