-- The calls so far have no ticket any more.
use Rattle.std.proofs.Common.{◌≡◌, ◌≤◌, ℕ, map, None, if◌then◌else◌}
use Rattle.moka_sync.specs.Tickets.{ticket_of, tickets_room}
use Rattle.moka_sync.specs.Waiting.{waits}
use Rattle.moka_sync.proofs.places.forget.Given as goal

abbrev pub invariant-loop-place : goal.invariant-loop-place
invariant-loop-place l = record {
  gone : (call : ℕ) → ticket_of l.tickets call
      ≡ (if waits call (map (λ p. p.now.call) l.yielded) then None else ticket_of l.initial.tickets call);
  spare : tickets_room l.initial.tickets ≤ tickets_room l.tickets;
}
