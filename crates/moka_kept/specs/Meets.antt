-- What a call stores and tells on its way, which meets the fact.
use Rattle.std.specs.Prelude.{◌≡◌, ℕ, Option, Some, None}
use Rattle.moka_hist.specs.Next.{Next}
use Rattle.moka_hist.specs.State.{Call}
use Rattle.moka_hist.specs.Step.{access_of}
use Rattle.moka_init.specs.FlowPlan.{call_of}
use Rattle.moka_init.specs.declared.flow.Flow.{Flow}
use Rattle.moka_kept.specs.Facts.{Facts, MakesSo, TellsSo}
use Rattle.moka_kept.specs.Paths.{CameWith, EndedWith}
use Rattle.moka_kept.specs.Taking.{Taken}
use Rattle.moka_kept.specs.declared.stop.OwnAsk.{OwnAsk}
use Rattle.moka_kept.specs.declared.stop.OwnAsk.TheVariants as own
use Rattle.moka_kept.specs.declared.stop.Stop.{Stop}
use Rattle.moka_kept.specs.declared.stop.Stop.TheVariants as stop

-- the pair that a compute is to be told, where a call asks its own caller so
abbrev pub pair_asked : {K V : Type 0} → OwnAsk K V → Option (K × V)
pair_asked own.Init = None
pair_asked (own.Compute found) = found

module _ {K V E : Type 0} where
  -- Whatever the call of this number comes to by such accesses, it stores what meets the fact, and
  -- judges a record that does; it ends its load with what does for the key that its state keeps, and
  -- tells a compute and the listener what does.
  abbrev pub CallMeets : Facts K V → Option K → (Taken V E → Type 0) → ℕ → Call K V E → Type 0
  CallMeets f own such n c =
      ((d : Call K V E) → CameWith f such n c d → MakesSo f own (access_of n d))
      × ((next : Next K V E) → EndedWith f such n c next → TellsSo f next.turn)

  -- the same of the call of a flow
  abbrev pub FlowMeets : Facts K V → Option K → (Taken V E → Type 0) → Flow K V E → Type 0
  FlowMeets f own such flow = CallMeets f own such flow.call (call_of flow)

  -- the pair that a compute or the listener is to be told, where a hold left its call so
  abbrev pub pair_told : Stop K V E → Option (K × V)
  pair_told stop.Going = None
  pair_told (stop.Waits task kept) = None
  pair_told (stop.Asks asks) = pair_asked asks
  pair_told (stop.Due due) = Some (due.key, due.value)
  pair_told (stop.Answers answer) = None
  pair_told stop.Memory = None

  -- it meets the fact
  abbrev pub StopSo : Facts K V → Stop K V E → Type 0
  StopSo f left = (pair : K × V) → pair_told left ≡ Some pair → f.holds pair.0 pair.1
