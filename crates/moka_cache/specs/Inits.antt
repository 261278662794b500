-- What the initializer of a load tells.
use Rattle.std.specs.Prelude.{Option, Result, IsSomeAnd}
use Rattle.moka_hist.specs.declared.events.Told.{Told}
use Rattle.moka_cache.specs.Asked.{TellsOption, TellsResult, TellsValue}
use Rattle.moka_cache.specs.declared.by_init.ByInit.{ByInit}
use Rattle.moka_cache.specs.declared.by_init.ByOptionalInit.{ByOptionalInit}
use Rattle.moka_cache.specs.declared.by_init.ByTryInit.{ByTryInit}

module _ {I V E : Type 0} where
  -- it may tell a value that its initializer may give; one that is gone gives nothing
  abbrev pub GivesValue : (I → V → Type 0) → ByInit I → Told V E → Type 0
  GivesValue gives asked told = IsSomeAnd asked.init (λ init. TellsValue (gives init) told)

  -- the same of one that may give none
  abbrev pub GivesOption : (I → Option V → Type 0) → ByOptionalInit I → Told V E → Type 0
  GivesOption gives asked told = IsSomeAnd asked.init (λ init. TellsOption (gives init) told)

  -- the same of one that may give an error
  abbrev pub GivesResult : (I → Result V E → Type 0) → ByTryInit I → Told V E → Type 0
  GivesResult gives asked told = IsSomeAnd asked.init (λ init. TellsResult (gives init) told)
