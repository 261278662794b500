-- A put that found no memory left all.
use Rattle.moka_keepers.specs.Writes.{write_of}
use Rattle.moka_keepers.proofs.Puts.{failed_so}
use Rattle.moka_keepers.proofs.map_keeper.MapKeeperKeeper.put.Goals as goal

pub returns-in-Err-clause-failed : goal.returns-in-Err-clause-failed
returns-in-Err-clause-failed c =
    failed_so c.fault-in-Err.new.self c.args.self.now _ (write_of c.args.key c.args.value) c.fault-in-Err.ensures.counted
    c.in-Err.ensures.stays c.in-Err.ensures.same
