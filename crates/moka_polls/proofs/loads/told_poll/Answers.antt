use Rattle.moka_polls.proofs.Telling.{told_value, told_nothing, told_error, not_told}
use Rattle.moka_polls.proofs.loads.told_poll.Goals as goal

pub returns : goal.returns
returns g c = record {
  value = told_value g.K.PartialEq.eq;
  nothing = told_nothing g.K.PartialEq.eq;
  error = told_error g.K.PartialEq.eq;
  untold = not_told g.K.PartialEq.eq;
}
