-- The record is there, and the cache has a capacity.
use Rattle.moka_behind.proofs.Evictions.{evicts}
use Rattle.moka_behind.proofs.shedding.evict.Goals as goal

pub returns : goal.returns
returns c =
    evicts c.args.pairs.now c.run.new.pairs c.args.key c.args.stamp c.in_ok-_evicted._evicted.0 c.in_ok-_evicted._evicted.1
    c.in_ok-_evicted.ensures
