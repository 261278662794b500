-- The place of the call is given up.
use Rattle.moka_machine.proofs.Running.{gone_out}
use Rattle.moka_machine.proofs.machine.Machine.end_with.Goals as goal

pub returns-clause-stands : goal.returns-clause-stands
returns-clause-stands g c = λ others w h. gone_out g.K.PartialEq.eq g.T.Tests c.args.self.now c.args.call c.end.new.self others w c.end.ensures h
