-- Any world allows a scan.
use Rattle.std.proofs.Common.{ap}
use Rattle.moka_hist.specs.Step.{On_desk}
use Rattle.moka_hist.specs.declared.accesses.Want.TheVariants as want
use Rattle.moka_hist.specs.declared.visits.Visit.TheVariants as visit
use Rattle.moka_init.specs.Grounds.{wanted}
use Rattle.moka_layers.specs.Layers.{operation_in}
use Rattle.moka_walk_cases.proofs.Standing.{stands_then}
use Rattle.moka_walk_cases.proofs.accesses.scan.Goals as goal

pub returns : goal.returns
returns g c =
    let wish = want.Desk (visit.Scan c.args.key c.args.stored) in
    record {
      stands = stands_then g.T.Table c.access.result c.args.layers.now c.access.new.self wish (On_desk (visit.Scan c.args.key c.args.stored))
          (ap (λ b. wanted (operation_in g.T.Table b) wish) c.requires.none) (λ w. tt)
          c.access.ensures.serves c.access.ensures.err c.requires.stands;
    }
