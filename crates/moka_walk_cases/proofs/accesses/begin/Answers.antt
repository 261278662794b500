-- Any world allows that an operation is begun.
use Rattle.std.proofs.Common.{ap}
use Rattle.moka_hist.specs.Step.{On_table}
use Rattle.moka_hist.specs.declared.accesses.Want.TheVariants as want
use Rattle.moka_init.specs.Grounds.{wanted}
use Rattle.moka_layers.specs.Layers.{operation_in}
use Rattle.moka_walk_cases.proofs.Standing.{stands_then}
use Rattle.moka_walk_cases.proofs.accesses.begin.Goals as goal

pub returns : goal.returns
returns g c =
    record {
      stands = stands_then g.T.Table c.access.result c.args.layers.now c.access.new.self (want.Begin c.args.operation) (On_table c.args.operation)
          (ap (λ b. wanted (operation_in g.T.Table b) (want.Begin c.args.operation)) c.requires.none) (λ w. tt)
          c.access.ensures.serves c.access.ensures.err c.requires.stands;
    }
