use Rattle.moka_room.proofs.Orders.{set_twice}
use Rattle.moka_room.proofs.set_room.reserve_half.Goals as goal

pub returns-then-needed-places-clause-keys : goal.returns-then-needed-places-clause-keys
returns-then-needed-places-clause-keys g c =
    set_twice g.K.PartialEq.eq c.args.set.now c.reserve-2.new.self c.shrink.new.set c.reserve-2.ensures.keys c.shrink.ensures.keys
