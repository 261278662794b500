-- The run that `run` tells, without its lists.
use Rattle.moka_uses.proofs.reading.run_all.Goals as goal

pub returns-in-Ok-clause-run : goal.returns-in-Ok-clause-run
returns-in-Ok-clause-run g c = λ s stands reached. (c.in-Ok.ensures.run s stands reached).0
