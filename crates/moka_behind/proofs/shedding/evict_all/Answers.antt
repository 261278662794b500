-- Each round takes the first of the pairs that are left.
use Rattle.std.proofs.Common.{◌<◌, length, arith}
use Rattle.moka_behind.proofs.Evictions.{evicted_at}
use Rattle.moka_behind.proofs.shedding.evict_all.Goals as goal

pub loop-entry-preserved : goal.loop-entry-preserved
loop-entry-preserved c =
    let within : c.loop-entry.entry-index < length c.args.entries.now = omega arith in
    evicted_at c.loop-entry.pairs c.evict.new.pairs c.args.entries.now c.loop-entry.entry-index _ within c.loop-entry.invariant
    c.in_ok-evict.ensures
