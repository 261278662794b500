-- It is told a value, so it answers the entry that it stored.
use Rattle.moka_cache.proofs.Answering.{stored_so, put_told}
use Rattle.std.proofs.Common.{refl}
use Rattle.std.proofs.lemmas.Option.{none-some}
use Rattle.moka_cache.specs.Computes.{MayGive}
use Rattle.moka_cache.specs.Keys.{key_of}
use Rattle.moka_cache.specs.Settings.{rules_of}
use Rattle.moka_cache.proofs.Telling.{upsert_tells}
use Rattle.moka_cache.proofs.entry.EntrySelector.and_upsert_with.Goals as goal

pub returns-clause-tells : goal.returns-clause-tells
returns-clause-tells g c =
    upsert_tells g.K.PartialEq.eq c.computes_tell.ensures.tells (MayGive g.C.Compute.gives c.call_asking.result.asked.stage) (rules_of c.call_asking.result.cache.now) (λ begin. key_of begin.key) c.call_asking.result.stage _
    c.call_asking.ensures.stage

pub call_asking-requires-clause-brings : goal.call_asking-requires-clause-brings
call_asking-requires-clause-brings g c = λ key value is. absurd (none-some (key, value) is)

pub call_asking-requires-clause-names : goal.call_asking-requires-clause-names
call_asking-requires-clause-names g c = λ key is. absurd (none-some key is)

pub call_asking-requires-clause-gives : goal.call_asking-requires-clause-gives
call_asking-requires-clause-gives g c = λ told key value gives is e. put_told g.P.Fact.holds (key_of c.args.self.key) (g.C.Compute.gives c.args.compute) c.requires.fact told key value gives is e

pub returns-clause-gives : goal.returns-clause-gives
returns-clause-gives g c = λ told by.
    stored_so (g.P.Fact.holds (key_of c.args.self.key)) by.0 told by.3 (λ value is. c.call_asking.ensures.answers (key_of c.args.self.key) by.0 value refl by.1 is)
