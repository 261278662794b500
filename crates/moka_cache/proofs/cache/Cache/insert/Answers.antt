-- What it stores, tells and answers meets the fact.
use Rattle.moka_cache.proofs.Answering.{brings_one}
use Rattle.std.proofs.lemmas.Option.{none-some}
use Rattle.moka_cache.proofs.cache.Cache.insert.Goals as goal

pub call-requires-clause-brings : goal.call-requires-clause-brings
call-requires-clause-brings g c = brings_one g.P.Fact.holds c.args.key c.args.value c.requires.fact

pub call-requires-clause-names : goal.call-requires-clause-names
call-requires-clause-names g c = λ key is. absurd (none-some key is)
