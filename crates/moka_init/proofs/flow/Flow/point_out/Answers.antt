-- Nothing is left to do in the flow, which is else as it was.
use Rattle.moka_init.proofs.Same.{at_point}
use Rattle.moka_init.proofs.flow.Flow.point_out.Goals as goal

pub returns-clause-flow : goal.returns-clause-flow
returns-clause-flow g c = at_point c.args.self.now _ _ _ c.replace.ensures.after
