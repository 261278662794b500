-- What it stores, tells and answers meets the fact.
use Rattle.std.proofs.lemmas.Option.{none-some}
use Rattle.moka_cache.proofs.cache.Cache.invalidate.Goals as goal

pub call-requires-clause-brings : goal.call-requires-clause-brings
call-requires-clause-brings g c = λ key value is. absurd (none-some (key, value) is)

pub call-requires-clause-names : goal.call-requires-clause-names
call-requires-clause-names g c = λ key is. absurd (none-some key is)
