use Rattle.moka_room.proofs.Orders.{set_twice}
use Rattle.moka_room.proofs.set_room.reserve.Goals as goal

pub returns-clause-keys : goal.returns-clause-keys
returns-clause-keys g c =
    set_twice g.K.PartialEq.eq c.args.set.now c.reserve.new.self c.give_back.new.set c.reserve.ensures.keys c.give_back.ensures.keys
