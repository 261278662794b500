-- Memory was wanting where the event may need some.
use Rattle.moka_polled.proofs.Carrying.{may_stop}
use Rattle.moka_polled.proofs.machine.PolledMachine.carry_out.Goals as goal

pub returns-in-Err-clause-needs : goal.returns-in-Err-clause-needs
returns-in-Err-clause-needs g c =
    may_stop g.K.PartialEq.eq c.args.self.now c.serve.new.self c.args.event.now c.in-Err.field-0.steps
    c.in-Err.ensures.stops c.in-Err.ensures.needs
