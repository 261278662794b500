use Rattle.moka_small.proofs.Giving.{drop_only, empty_only, poll_only, start_only, tell_only}
use Rattle.moka_small.proofs.given.answers_are_given.Goals as goal

pub returns : goal.returns
returns g c = record {
  empty = empty_only g.K.PartialEq.eq;
  started = start_only g.K.PartialEq.eq g.met.K.Eq.laws;
  told = tell_only g.K.PartialEq.eq g.met.K.Eq.laws;
  polled = poll_only g.K.PartialEq.eq g.met.K.Eq.laws;
  dropped = drop_only g.K.PartialEq.eq g.met.K.Eq.laws;
}
