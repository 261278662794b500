-- It answers the value that it found, read or was told, or that it gave up.
use Rattle.moka_cache.proofs.Answering.{loaded_so, value_told}
use Rattle.std.proofs.Common.{refl}
use Rattle.std.proofs.lemmas.Option.{none-some}
use Rattle.moka_cache.specs.Keys.{key_of}
use Rattle.moka_cache.specs.Loaded.{loaded_in}
use Rattle.moka_cache.specs.Settings.{rules_of}
use Rattle.moka_cache.proofs.Loading.{loaded, value_tells}
use Rattle.moka_cache.proofs.cache.Cache.get_with.Goals as goal

pub returns-clause-tells : goal.returns-clause-tells
returns-clause-tells g c =
    value_tells g.K.PartialEq.eq c.loads_tell.ensures.tells (rules_of c.call_asking.result.cache.now) (λ load. key_of load.key) (λ named said. loaded_in said) g.I.Init.gives c.call_asking.result.asked (λ load. load.replace)
    (λ load named said may. loaded (key_of load.key) named load.replace said may) c.call_asking.result.stage _ c.call_asking.ensures.stage

pub call_asking-requires-clause-brings : goal.call_asking-requires-clause-brings
call_asking-requires-clause-brings g c = λ key value is. absurd (none-some (key, value) is)

pub call_asking-requires-clause-names : goal.call_asking-requires-clause-names
call_asking-requires-clause-names g c = λ key is. is

pub call_asking-requires-clause-gives : goal.call_asking-requires-clause-gives
call_asking-requires-clause-gives g c = λ told key value gives is e. value_told g.P.Fact.holds c.args.key (g.I.Init.gives c.args.init) c.requires.fact told key value gives is e

pub returns-clause-gives : goal.returns-clause-gives
returns-clause-gives g c = λ told by.
    loaded_so (g.P.Fact.holds c.args.key) by.0 told by.3 (λ value is. c.call_asking.ensures.answers c.args.key by.0 value refl by.1 is)
