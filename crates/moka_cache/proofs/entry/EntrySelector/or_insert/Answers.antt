-- It asks nobody, so it answers an entry.
use Rattle.moka_cache.proofs.Answering.{brings_one, entry_so}
use Rattle.std.proofs.Common.{refl}
use Rattle.moka_cache.specs.Keys.{key_of}
use Rattle.moka_cache.specs.Settings.{rules_of}
use Rattle.moka_cache.proofs.Suiting.{or_inserts_tell}
use Rattle.moka_cache.proofs.entry.EntrySelector.or_insert.Goals as goal

pub returns-clause-tells : goal.returns-clause-tells
returns-clause-tells g c =
    or_inserts_tell g.K.PartialEq.eq c.shapes_fit.ensures.fits (rules_of c.call.result.cache.now) (λ insert. key_of insert.key) (λ insert. insert.value) c.call.result.stage _ c.call.ensures.stage

pub call-requires-clause-brings : goal.call-requires-clause-brings
call-requires-clause-brings g c = brings_one g.P.Fact.holds (key_of c.args.self.key) c.args.value c.requires.fact

pub call-requires-clause-names : goal.call-requires-clause-names
call-requires-clause-names g c = λ key is. is

pub returns-clause-gives : goal.returns-clause-gives
returns-clause-gives g c = λ told by.
    entry_so (g.P.Fact.holds (key_of c.args.self.key)) _ by.0 told by.3 (λ value is. c.call.ensures.answers (key_of c.args.self.key) by.0 value refl by.1 is)
