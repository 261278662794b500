-- The call is back in its place.
use Rattle.moka_machine.proofs.Running.{back_in}
use Rattle.moka_machine.proofs.machine.Machine.put_in.Goals as goal

pub returns : goal.returns
returns g c = λ others w h out.
    back_in g.K.PartialEq.eq g.T.Tests c.args.self.now c.args.call (record { flow = c.args.flow; begun = c.take-begun.result }) c.take-begun.new.self c.put_back.new.self others w c.take-begun.ensures.value c.put_back.ensures h out
