use Rattle.moka_small.proofs.Happening.{tell_refused, tell_tells}
use Rattle.moka_small.proofs.events.tell_is_told.Goals as goal

pub returns : goal.returns
returns g c = record {
  told = tell_tells g.K.PartialEq.eq;
  refused = tell_refused g.K.PartialEq.eq;
}
