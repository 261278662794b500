-- Every reached state is lawful.
use Rattle.std.proofs.Common.{Bool}
use Rattle.std.specs.Cmp.{IsEquivalence}
use Rattle.moka_hist.specs.Places.{IsLawful}
use Rattle.moka_hist.specs.Run.{Any}
use Rattle.moka_laws.specs.Lawful.{ReachedIsLawful, StepsAreLawful, EventIsLawful, RunIsLawful}
use Rattle.moka_laws.proofs.Between.{steps_more, event_more, run_more}
use Rattle.moka_laws.proofs.Balanced.{in_balance}
use Rattle.moka_laws.proofs.OnePlace.{stands_once, stands_committed}
use Rattle.moka_laws.proofs.Noticing.{in_noticing}
use Rattle.moka_laws.proofs.SettledNotices.{notices_settled}
use Rattle.moka_laws.proofs.Owning.{one_initializes}

module _ {K V E : Type 0} (eq : K → K → Bool) (laws : IsEquivalence eq) where
  pub lawfully : ReachedIsLawful K V E eq
  lawfully s h =
      let i = in_balance eq s h in
      record {
        commits_once = i.once;
        one_place = stands_once s i;
        committed = stands_committed s i;
        notices = notices_settled s (in_noticing eq s h);
        one_initializer = one_initializes eq laws s h;
      }

  pub steps_are_lawful : StepsAreLawful K V E eq
  steps_are_lawful k s t n h =
      (steps_more eq Any (IsLawful eq) (λ v i p. lawfully v i) k s t n h, steps_more eq (IsLawful eq) Any (λ v i p. tt) k s t n h)

  pub event_is_lawful : EventIsLawful K V E eq
  event_is_lawful s t e r h =
      (event_more eq Any (IsLawful eq) (λ v i p. lawfully v i) s t e r h, event_more eq (IsLawful eq) Any (λ v i p. tt) s t e r h)

  pub run_is_lawful : RunIsLawful K V E eq
  run_is_lawful s t es rs h =
      (run_more eq Any (IsLawful eq) (λ v i p. lawfully v i) s t es rs h, run_more eq (IsLawful eq) Any (λ v i p. tt) s t es rs h)
