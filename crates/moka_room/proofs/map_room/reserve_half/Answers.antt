use Rattle.moka_room.proofs.Orders.{map_twice}
use Rattle.moka_room.proofs.map_room.reserve_half.Goals as goal

pub returns-then-needed-places-clause-entries : goal.returns-then-needed-places-clause-entries
returns-then-needed-places-clause-entries g c =
    map_twice g.K.PartialEq.eq c.args.map.now c.reserve-2.new.self c.shrink.new.map c.reserve-2.ensures.entries c.shrink.ensures.entries
