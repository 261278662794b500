use Rattle.std.proofs.Common.{◌<◌, ◌-◌, bit_and, arith}
use Rattle.moka_cht.proofs.Passing.{reckoned, start_below}
use Rattle.moka_cht.proofs.probe.Probe.bucket.Goals as goal

pub overflow_add-result : goal.overflow_add-result
overflow_add-result c =
    let p = c.args.self.now in
    let below : bit_and p.hash (p.length - 1) < p.length = start_below p.hash p.length c.requires.power (omega arith) in omega arith

pub returns : goal.returns
returns c = let p = c.args.self.now in reckoned p.hash p.passed p.length c.requires.power
