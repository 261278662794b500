use Rattle.moka_polls.proofs.Resting.{fresh_calm, stays_calm, calm_quiet}
use Rattle.moka_polls.proofs.calm.polls_leave_calm.Goals as goal

pub returns : goal.returns
returns g c = record {
  fresh = fresh_calm;
  stays = stays_calm g.K.PartialEq.eq;
  quiet = calm_quiet;
}
