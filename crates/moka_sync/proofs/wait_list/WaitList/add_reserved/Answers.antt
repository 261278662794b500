-- The call gets the next ticket and the first spare node.
use Rattle.std.proofs.Common.{◌≡◌, ◌++◌, ◌∷◌, [], ◌-◌, length, ap, arith, length-append, length-drop}
use Rattle.moka_sync.specs.Tickets.{ticket_of}
use Rattle.moka_sync.specs.Waiting.{Waiting}
use Rattle.moka_sync.specs.Standing.{standing}
use Rattle.moka_sync.proofs.Stands.{unticketed, AreKept-list, AreKept-listed, Waiting-same}
use Rattle.moka_sync.proofs.wait_list.WaitList.add_reserved.Goals as goal

pub give-requires : goal.give-requires
give-requires c =
    let room : length c.self.inside.spare ≡ c.args.self.now.room = ap (λ (v : Waiting). v.room) c.self.view_is in
    record {
      room = omega arith;
      free = unticketed c.self.inside c.args.self.now c.args.call c.contains.result c.self.view_is c.self.invariant c.contains.ensures c.if-contains.false;
    }

pub invariant_of-self : goal.invariant_of-self
invariant_of-self c =
    let w = c.self.inside in
    let f = ticket_of w.tickets in
    let g = ticket_of c.give.new.self in
    let none = unticketed w c.args.self.now c.args.call c.contains.result c.self.view_is c.self.invariant c.contains.ensures c.if-contains.false in
    let room : length w.spare ≡ c.args.self.now.room = ap (λ (v : Waiting). v.room) c.self.view_is in
    let listed = AreKept-listed f g w.places c.args.call w.next none c.give.ensures.given c.self.invariant.kept in
    record {
      kept = rw c.seat.ensures.places (AreKept-list f g w.places c.args.call w.next none c.give.ensures.given c.self.invariant.kept);
      count = rw (c.seat.ensures.places, listed, length-append) (omega arith);
      map_room = rw (c.seat.ensures.spare, length-drop) (omega arith);
      tickets_left = rw (c.seat.ensures.spare, length-drop) (omega arith);
      nodes_fit = rw (c.seat.ensures.spare, c.seat.ensures.places, length-append, length-drop) (omega arith);
    }

pub returns-clause-first : goal.returns-clause-first
returns-clause-first c =
    let w = c.self.inside in
    let f = ticket_of w.tickets in
    let g = ticket_of c.give.new.self in
    let calls : standing f w.places ≡ c.args.self.now.calls = ap (λ (v : Waiting). v.calls) c.self.view_is in
    let none = unticketed w c.args.self.now c.args.call c.contains.result c.self.view_is c.self.invariant c.contains.ensures c.if-contains.false in
    let listed = AreKept-listed f g w.places c.args.call w.next none c.give.ensures.given c.self.invariant.kept in
    let room : length w.spare ≡ c.args.self.now.room = ap (λ (v : Waiting). v.room) c.self.view_is in
    let more : standing g c.seat.new.places ≡ c.args.self.now.calls ++ c.args.call ∷ [] =
    rw (c.seat.ensures.places, listed) (ap (λ xs. xs ++ c.args.call ∷ []) calls) in
    let less : length c.seat.new.spare ≡ c.args.self.now.room - 1 = rw (c.seat.ensures.spare, length-drop) (omega arith) in
    λ _. Waiting-same _ _ _ _ more less
