-- What is so of a flow that stands for what it stood for.
use Rattle.std.proofs.Common.{◌≡◌, Some, sym, ap, ◌∙◌}
use Rattle.moka_hist.specs.Step.{Access, access_of, next_of, want_for}
use Rattle.moka_hist.specs.declared.accesses.Got.{Got}
use Rattle.moka_hist.specs.declared.accesses.Want.{Want}
use Rattle.moka_init.specs.declared.flow.Flow.{Flow}
use Rattle.moka_init.specs.FlowPlan.{call_of, is_over, IsLive, StandsStill}
use Rattle.moka_init.specs.Grounds.{Account, IsOn, wanted, access_at, wish_of}

module _ {K V E : Type 0} where
  pub access_still : (old new : Flow K V E) → StandsStill old new → access_at new ≡ access_at old
  access_still old new still =
      ap (λ n. access_of n (call_of new)) still.number ∙ ap (λ c. access_of old.call c) still.call

  pub wish_still : (old new : Flow K V E) → StandsStill old new → wish_of new ≡ wish_of old
  wish_still old new still =
      ap (λ b. want_for b (access_at new)) still.begun
      ∙ ap (λ (a : Access K V E). want_for old.begun a) (access_still old new still)

  pub next_still : (old new : Flow K V E) (given : Got K V E) → StandsStill old new →
      next_of new.call (call_of new) given ≡ next_of old.call (call_of old) given
  next_still old new given still =
      ap (λ n. next_of n (call_of new) given) still.number
      ∙ ap (λ c. next_of old.call c given) still.call

  pub live_still : (old new : Flow K V E) → StandsStill old new → IsLive old → IsLive new
  live_still old new still live = ap (λ c. is_over c.plan) still.call ∙ live

  pub on_still : (a : Account K V E) (old new : Flow K V E) → StandsStill old new → IsOn a old → IsOn a new
  on_still a old new still on = record {
    call = on.call ∙ sym still.number;
    begun = ap (λ (w : Want K V E). wanted a.begun w) (wish_still old new still)
        ∙ on.begun ∙ ap (λ (x : Access K V E). Some x) (sym (access_still old new still));
  }
