-- A fresh call has something to do, and needs nothing twice.
use Rattle.moka_init.proofs.Starting.{fresh_live, fresh_copied}
use Rattle.moka_init.proofs.flow.Flow.new.Goals as goal

pub returns-clause-live : goal.returns-clause-live
returns-clause-live g c = fresh_live _ _ _ c.first.result c.args.parts c.args.rules c.args.start c.first.ensures.plan

pub returns-clause-ready : goal.returns-clause-ready
returns-clause-ready g c = fresh_copied _ _ _ c.first.result c.args.parts c.args.rules c.args.start c.first.ensures.plan
