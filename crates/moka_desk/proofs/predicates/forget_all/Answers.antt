-- Each round lets the next one leave.
use Rattle.std.proofs.Common.{◌<◌, length, nat_eq, arith}
use Rattle.std.specs.HashMap.{get}
use Rattle.moka_desk.proofs.OwnIds.{next_left}
use Rattle.moka_desk.proofs.predicates.forget_all.Goals as goal

pub loop-named-preserved : goal.loop-named-preserved
loop-named-preserved c = λ registered h.
    let within : c.loop-named.named-index < length c.args.leaving.now = omega arith in
    next_left registered c.args.leaving.now c.loop-named.named-index _ within (get nat_eq c.loop-named.ids) (get nat_eq c.forget.new.ids)
    (c.loop-named.invariant registered h) c.forget.ensures
