use Rattle.moka_polls.proofs.Waiting.{waiter_answers, waiter_waits}
use Rattle.moka_polls.proofs.loads.waits_poll.Goals as goal

pub returns : goal.returns
returns g c = record {
  ended = waiter_answers g.K.PartialEq.eq;
  waits = waiter_waits g.K.PartialEq.eq;
}
