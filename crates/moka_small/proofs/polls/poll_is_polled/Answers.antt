use Rattle.moka_small.proofs.Happening.{poll_refused}
use Rattle.moka_small.proofs.Polling.{poll_tells}
use Rattle.moka_small.proofs.polls.poll_is_polled.Goals as goal

pub returns : goal.returns
returns g c = record {
  polled = poll_tells g.K.PartialEq.eq g.met.K.Eq.laws;
  refused = poll_refused g.K.PartialEq.eq;
}
