-- The call loses its ticket, and its place stands no more.
use Rattle.std.proofs.Common.{◌≡◌, ◌∙◌, ℕ, cond, None, length, map, ap, nat_eq, arith}
use Rattle.moka_sync.specs.Tickets.{ticket_of}
use Rattle.moka_sync.specs.declared.places.Place.{Place}
use Rattle.moka_sync.specs.Waiting.{Waiting, without}
use Rattle.moka_sync.specs.Standing.{standing}
use Rattle.moka_sync.proofs.Stands.{AreKept-lost, AreKept-moved, standing-lost, length-lost, Waiting-same}
use Rattle.moka_sync.proofs.wait_list.WaitList.remove.Goals as goal
use Rattle.moka_sync.proofs.wait_list.WaitList.remove.Goals.{After-sweep_stale}

-- the calls that stand after the sweep
swept : (c : After-sweep_stale) → standing (ticket_of c.remove.new.self) c.sweep_stale.new.places ≡ standing (ticket_of c.remove.new.self) c.self.inside.places
swept c = ap (map (λ (p : Place). p.call)) c.sweep_stale.ensures.same

pub invariant_of-self : goal.invariant_of-self
invariant_of-self c =
    let w = c.self.inside in
    let f = ticket_of w.tickets in
    let g = ticket_of c.remove.new.self in
    let lost : (q : ℕ) → g q ≡ cond (nat_eq c.args.call q) None (f q) = c.remove.ensures.lost in
    let less = length-lost f g w.places c.args.call w.next lost c.self.invariant.kept in
    let taken = c.remove.ensures.count in
    record {
      kept = AreKept-moved g w.places c.sweep_stale.new.places w.next c.sweep_stale.ensures.same (c.sweep_stale.ensures.below w.next)
          (AreKept-lost f g w.places c.args.call w.next lost c.self.invariant.kept);
      count = rw (ap length (swept c)) (omega arith);
      map_room = omega arith;
      tickets_left = omega arith;
      nodes_fit = omega arith;
    }

pub returns : goal.returns
returns c =
    let w = c.self.inside in
    let f = ticket_of w.tickets in
    let g = ticket_of c.remove.new.self in
    let calls = swept c ∙ standing-lost f g c.args.call c.remove.ensures.lost w.places ∙ ap (λ (v : Waiting). without c.args.call v.calls) c.self.view_is in
    Waiting-same _ _ _ _ calls (ap (λ (v : Waiting). v.room) c.self.view_is)
