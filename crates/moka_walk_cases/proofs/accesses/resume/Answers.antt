-- What was begun is an operation, and any world allows it.
use Rattle.std.proofs.Common.{ap}
use Rattle.moka_hist.specs.Step.{On_table}
use Rattle.moka_hist.specs.declared.accesses.Want.TheVariants as want
use Rattle.moka_init.specs.Grounds.{wanted}
use Rattle.moka_walk_cases.proofs.Standing.{begun_op, stands_then}
use Rattle.moka_walk_cases.proofs.accesses.resume.Goals as goal

pub returns : goal.returns
returns g c =
    let begun = begun_op g.T.Table c.args.layers.now.table c.args.layers.now.begun c.requires.begun c.requires.stands.1.begun.fits in
    record {
      stands = stands_then g.T.Table c.access.result c.args.layers.now c.access.new.self want.Table (On_table begun.0)
          (ap (λ o. wanted o want.Table) begun.1) (λ w. tt) c.access.ensures.serves c.access.ensures.err c.requires.stands;
    }
