-- The machine after accesses of the call that was taken out.
use Rattle.std.proofs.Common.{◌≡◌, ◌≢◌, ℕ, Bool, Option, sym, subst, ◌∙◌}
use Rattle.std.specs.declared.cmp.PartialEq as PartialEq
use Rattle.std.specs.declared.hash.Hash as Hash
use Rattle.std.specs.Option.{option_map}
use Rattle.moka_hist.specs.State.{Call, World}
use Rattle.moka_init.specs.declared.flow.Flow.{Flow}
use Rattle.moka_init.specs.FlowPlan.{StandsStill}
use Rattle.moka_init.specs.Grounds.{Account, IsOn}
use Rattle.moka_init.proofs.Still.{live_still, on_still}
use Rattle.moka_layers.specs.Layers.{account_of}
use Rattle.moka_hist.specs.declared.record_tests.Tests as Tests
use Rattle.moka_machine.specs.Calls.{running_at}
use Rattle.moka_machine.specs.Machine.{IsOut, Reaches, Without, call_in}
use Rattle.moka_machine.specs.TheTable.{the_table}
use Rattle.moka_machine.specs.declared.calls.Calls.{Calls}
use Rattle.moka_machine.specs.declared.machine.Machine.{Machine}

module _ {K V E T : Type 0} {same : PartialEq.Ghosts K} {hash : Hash.Ghosts K} (eq : K → K → Bool) (q : Tests.Ghosts T K V) where
  -- the other calls are as they were
  pub still_without : (old new : Machine K V E T same hash) (n : ℕ) (before after : Flow K V E) (others : ℕ → Option (Call K V E)) (w mid : World K V E)
      → IsOn (account_of (the_table eq) old.layers) before → IsOn (account_of (the_table eq) new.layers) after → after.call ≡ before.call
      → new.calls ≡ old.calls → Reaches eq q new mid → Without eq q old n others w → Without eq q new n others mid
  still_without old new n before after others w mid was is number calls reaches h =
      record {
        reaches = reaches;
        number = is.call ∙ number ∙ sym was.call ∙ h.number;
        calls = subst (λ (m : Calls K V E). (k : ℕ) → n ≢ k → option_map call_in (running_at m k) ≡ others k) (sym calls) h.calls;
      }

  -- the flow stands for what it stood for
  pub still_out : (old new : Machine K V E T same hash) (before after : Flow K V E) → StandsStill before after
      → account_of (the_table eq) new.layers ≡ account_of (the_table eq) old.layers → IsOut eq old before → IsOut eq new after
  still_out old new before after is account out =
      record {
        on = on_still (account_of (the_table eq) new.layers) before after is (subst (λ (a : Account K V E). IsOn a before) (sym account) out.on);
        live = live_still before after is out.live;
      }
