-- It begins as itself.
use Rattle.moka_cache.proofs.hearing.begin_with.Goals as goal

pub returns-clause-asked : goal.returns-clause-asked
returns-clause-asked g c = record { asks = c.begin.ensures.again; same = c.begin.ensures.same; tested = c.begin.ensures.tested }
