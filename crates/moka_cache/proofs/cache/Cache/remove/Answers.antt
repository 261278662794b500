-- What it stores, tells and answers meets the fact.
use Rattle.moka_cache.proofs.Answering.{found_so}
use Rattle.std.proofs.Common.{refl}
use Rattle.std.proofs.lemmas.Option.{none-some}
use Rattle.moka_cache.proofs.cache.Cache.remove.Goals as goal

pub call-requires-clause-brings : goal.call-requires-clause-brings
call-requires-clause-brings g c = λ key value is. absurd (none-some (key, value) is)

pub call-requires-clause-names : goal.call-requires-clause-names
call-requires-clause-names g c = λ key is. absurd (none-some key is)

pub returns-clause-gives : goal.returns-clause-gives
returns-clause-gives g c = λ told by.
    found_so (g.P.Fact.holds c.args.key.now) by.0 told by.3 (λ value is. c.call.ensures.answers c.args.key.now by.0 value refl by.1 is)
