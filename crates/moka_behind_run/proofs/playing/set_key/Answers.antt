use Rattle.std.proofs.Common.{Some, refl}
use Rattle.moka_behind_run.specs.Playing.{written}
use Rattle.moka_behind_run.proofs.playing.set_key.Goals as goal

pub returns-clause-serves : goal.returns-clause-serves
returns-clause-serves c = λ seen s stands.
    record {
      after = written s c.args.key (Some c.args.value);
      replies = (refl, refl);
      stands = c.in_ok-set.ensures.set seen.told s.truth s.stored s.sent stands;
    }
