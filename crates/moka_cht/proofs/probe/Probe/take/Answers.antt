use Rattle.moka_cht.proofs.Passing.{removes_as_puts}
use Rattle.moka_cht.proofs.probe.Probe.take.Goals as goal

pub returns-in-Remove : goal.returns-in-Remove
returns-in-Remove c =
    rw c.in-Remove.is (removes_as_puts c.args.self c.in-Remove.node 0 c.args.seen _ (c.take_exchange-in-Remove.ensures 0))
