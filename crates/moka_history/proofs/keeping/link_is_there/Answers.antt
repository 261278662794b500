use Rattle.moka_history.specs.Logs.{entries_of, state_of}
use Rattle.moka_history.proofs.Fronts.{good_now}
use Rattle.moka_history.proofs.There.{link_there}
use Rattle.moka_history.proofs.keeping.link_is_there.Goals as goal

pub returns : goal.returns
returns g c = record {
  there = λ eq hash place divided log kept segment before size nodes key call x next array at some.
      link_there eq (hash kept.hasher) (place kept.hasher kept.segments) (state_of log) (entries_of log) (good_now eq hash place log kept) segment before size nodes key call x
      next array at some;
}
