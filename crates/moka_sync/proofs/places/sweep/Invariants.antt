-- The places so far are kept where they stand.
use Rattle.std.proofs.Common.{◌≡◌, ◌<◌, ◌≤◌, ◌^◌, length, take, drop}
use Rattle.moka_sync.specs.Tickets.{ticket_of}
use Rattle.moka_sync.specs.Standing.{standing_places}
use Rattle.moka_sync.proofs.places.sweep.Given as goal

abbrev pub invariant-loop : goal.invariant-loop
invariant-loop l = record {
  left : l.places ≡ drop l.counter l.fn.places;
  kept : l.kept ≡ standing_places (ticket_of l.tickets) (take l.counter l.fn.places);
  short : length l.kept ≤ l.counter;
  few : l.count < 2 ^ 63;
  count : l.count ≡ length l.fn.places;
}
