-- The first part is listed first.
use Rattle.std.proofs.Common.{arith}
use Rattle.moka_init.proofs.Walks.{first_part}
use Rattle.moka_init.proofs.points.Point.walk_over.Goals as goal

pub returns-else-parts-eq0-clause-plan : goal.returns-else-parts-eq0-clause-plan
returns-else-parts-eq0-clause-plan g c =
    first_part g.row.K.Denot g.row.V.Denot g.row.E.Denot c.args.parts _ (omega (arith, c.if-parts-eq0.false))
