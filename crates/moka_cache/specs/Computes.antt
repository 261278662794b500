-- How far who tells a compute what is to be done is.
use Rattle.std.specs.Prelude.{◌≡◌, Option, Result}
use Rattle.moka_hist.specs.declared.entries.Entry.{Entry}
use Rattle.moka_hist.specs.declared.events.Op.{Op}
use Rattle.moka_hist.specs.declared.events.Told.{Told}
use Rattle.moka_cache.specs.Asked.{FoundSo, IsPut, TellsDone, TellsPut}
use Rattle.moka_cache.specs.declared.by_compute.ByCompute.{ByCompute}
use Rattle.moka_cache.specs.declared.by_compute.ByUpsert.{ByUpsert}
use Rattle.moka_cache.specs.declared.by_compute.ComputeStage.{ComputeStage}
use Rattle.moka_cache.specs.declared.by_compute.ComputeStage.TheVariants as stage

module _ {C : Type 0} where
  -- it may be started with whatever is found that is so, where it is fresh, and polled where it was
  -- started
  abbrev pub CanGo : {K V : Type 0} → (K → V → Type 0) → (C → Option (Entry K V) → Type 0)
      → (C → Type 0) → ComputeStage C → Type 0
  CanGo {K} {V} holds can_start can_poll (stage.Fresh compute) =
      (found : Option (Entry K V)) → FoundSo holds found → can_start compute found
  CanGo holds can_start can_poll (stage.Started compute) = can_poll compute
  CanGo holds can_start can_poll stage.Over = Unit {0}

  -- it may give this, now or once it was started; what is over gives nothing
  abbrev pub MayGive : {O : Type 0} → (C → O → Type 0) → ComputeStage C → O → Type 0
  MayGive gives (stage.Fresh compute) output = gives compute output
  MayGive gives (stage.Started compute) output = gives compute output
  MayGive gives stage.Over output = ⊥

  -- it gave its output: it was started, and is over; nothing else says so
  abbrev pub Ended : ComputeStage C → ComputeStage C → Type 0
  Ended (stage.Started compute) stage.Over = Unit {0}
  Ended _ _ = ⊥

  -- a poll of it was pending: it was started, and still goes; nothing else says so
  abbrev pub Pends : (C → C → Type 0) → ComputeStage C → ComputeStage C → Type 0
  Pends pends (stage.Started old) (stage.Started new) = pends old new
  Pends pends _ _ = ⊥

  -- it was begun with this: one that is fresh was started with it, and any other is as it was
  abbrev pub WasBegun : {F : Type 0} → (C → F → Type 0) → ComputeStage C → F → ComputeStage C
      → Type 0
  WasBegun started (stage.Fresh compute) found (stage.Started new) = started new found
  WasBegun started (stage.Fresh compute) found _ = ⊥
  WasBegun started (stage.Started compute) found new = new ≡ stage.Started compute
  WasBegun started stage.Over found new = new ≡ stage.Over

module _ {C V E : Type 0} where
  -- what a compute may tell: what is to be done, or an error
  abbrev pub GivesOp : (C → Result (Op V) E → Type 0) → ByCompute C → Told V E → Type 0
  GivesOp gives asked told = TellsDone (MayGive gives asked.stage) told

  -- what an upsert may tell: the value of a put
  abbrev pub GivesPut : (C → Result (Op V) E → Type 0) → ByUpsert C → Told V E → Type 0
  GivesPut gives asked told = TellsPut (MayGive gives asked.stage) told

  -- it may go on, and gives nothing but puts
  abbrev pub CanPut : {K : Type 0} → (K → V → Type 0) → (C → Option (Entry K V) → Type 0)
      → (C → Type 0) → (C → Result (Op V) E → Type 0) → ByUpsert C → Type 0
  CanPut holds can_start can_poll gives asked =
      CanGo holds can_start can_poll asked.stage
      × ((r : Result (Op V) E) → MayGive gives asked.stage r → IsPut r)
