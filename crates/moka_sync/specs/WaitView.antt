-- What a wait list shows, and what holds of its parts.
use Rattle.std.specs.Prelude.{◌≡◌, ◌+◌, ◌<◌, ◌≤◌, ◌^◌, length}
use Rattle.moka_sync.specs.Tickets.{ticket_of, tickets_len, tickets_room}
use Rattle.moka_sync.specs.Waiting.{Waiting}
use Rattle.moka_sync.specs.Standing.{standing, AreKept}
use Rattle.moka_sync.specs.declared.wait_list.WaitList.TheInside.{Inside}

-- the calls whose places stand, and a room for each spare node
abbrev pub view_of : Inside → Waiting
view_of w = record { calls = standing (ticket_of w.tickets) w.places; room = length w.spare }

-- each waiting call has one place, and there are nodes, tickets and room among these for as many
-- more as there is room for
pub record IsWaitList (w : Inside) : Type 0 where
  pub kept : AreKept (ticket_of w.tickets) w.places w.next
  pub count : tickets_len w.tickets ≡ length (standing (ticket_of w.tickets) w.places)
  pub map_room : length w.spare ≤ tickets_room w.tickets
  pub tickets_left : w.next + length w.spare < 2 ^ 64
  pub nodes_fit : length w.places + length w.spare < 2 ^ 63
