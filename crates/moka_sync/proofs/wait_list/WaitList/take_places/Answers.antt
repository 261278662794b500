-- Nobody has a ticket, and there is no place.
use Rattle.std.proofs.Common.{◌≡◌, ◌∙◌, ℕ, None, [], arith, if◌then◌else◌}
use Rattle.moka_sync.specs.Tickets.{ticket_of}
use Rattle.moka_sync.specs.Waiting.{waits}
use Rattle.moka_sync.specs.Standing.{standing}
use Rattle.moka_sync.proofs.Stands.{AreKept-none, tickets-gone, len-none}
use Rattle.moka_sync.proofs.wait_list.WaitList.take_places.Goals as goal

pub invariant_of-self : goal.invariant_of-self
invariant_of-self c =
    let w = c.self.inside in
    let f = ticket_of w.tickets in
    let g = ticket_of c.forget.new.tickets in
    let gone : (q : ℕ) → g q ≡ (if waits q (standing f w.places) then None else f q) = λ q. (rw c.sweep_some.ensures at (c.forget.ensures.gone q)) in
    let none = tickets-gone f g w.places w.next c.self.invariant.kept gone in
    let empty : c.replace.new.dest ≡ [] = c.replace.ensures.after ∙ c.new.ensures in
    record {
      kept = rw empty (AreKept-none g none);
      count = rw empty (len-none c.forget.new.tickets.first c.forget.new.tickets.others.entries none);
      map_room = omega arith;
      tickets_left = omega arith;
      nodes_fit = rw empty (omega arith);
    }
