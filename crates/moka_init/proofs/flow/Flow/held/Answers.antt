-- A walk holds no write, and nor does maintenance once nothing is owed.
use Rattle.moka_init.proofs.Walks.{holds_none, maintenance_holds_none}
use Rattle.moka_init.proofs.flow.Flow.held.Goals as goal

pub returns-in-Walking : goal.returns-in-Walking
returns-in-Walking g c = holds_none _ _ _ c.args.self.now _ c.in-Walking.is

pub returns-in-Maintaining : goal.returns-in-Maintaining
returns-in-Maintaining g c = maintenance_holds_none _ _ _ c.args.self.now _ c.in-Maintaining.is
