-- What the flow's notice is opened with is what its point says.
use Rattle.moka_init.proofs.AtPoint.{opens}
use Rattle.moka_init.proofs.flow.Flow.opening.Goals as goal

pub returns-in-Listening : goal.returns-in-Listening
returns-in-Listening g c = opens c.args.self.now _ c.in-Listening.is _ c.listening_opening.ensures
