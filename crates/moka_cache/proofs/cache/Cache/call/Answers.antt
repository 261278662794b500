-- Nobody answers anything.
use Rattle.moka_cache.proofs.cache.Cache.call.Goals as goal

pub call_asking-requires-clause-gives : goal.call_asking-requires-clause-gives
call_asking-requires-clause-gives g c = λ told key value none is e. absurd none
