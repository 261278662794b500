use Rattle.std.proofs.Common.{None, refl}
use Rattle.moka_behind_run.specs.Playing.{written}
use Rattle.moka_behind_run.proofs.playing.del_key.Goals as goal

pub returns-clause-serves : goal.returns-clause-serves
returns-clause-serves c = λ seen s stands.
    record { after = written s c.args.key None; replies = (refl, refl); stands = c.in_ok-del.ensures.del seen.told s.truth s.stored s.sent stands }
