use Rattle.moka_room.proofs.Orders.{map_twice}
use Rattle.moka_room.proofs.map_room.reserve.Goals as goal

pub returns-clause-entries : goal.returns-clause-entries
returns-clause-entries g c =
    map_twice g.K.PartialEq.eq c.args.map.now c.reserve.new.self c.give_back.new.map c.reserve.ensures.entries c.give_back.ensures.entries
