-- What the reply says.
use Rattle.moka_polled.proofs.machine.PolledMachine.told.Goals as goal

pub returns-clause-serves : goal.returns-clause-serves
returns-clause-serves g c = λ m p. record {
  reply = c.in_ok-reply.reply;
  served = c.in_ok-reply.ensures.serves m p;
  says = c.is_told.ensures;
}
