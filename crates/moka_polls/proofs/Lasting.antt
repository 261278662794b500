-- What calls see where no record expires.
use Rattle.std.specs.List.{list_any}
use Rattle.std.specs.Option.{option_and_then, option_map}
use Rattle.std.proofs.Common.{◌≡◌, ℕ, not, Bool, true, false, cond, ◌&&◌, ◌||◌, List, Option, Some, None, refl, ap, ◌∙◌}
use Rattle.std.specs.declared.time.Duration.{Duration}
use Rattle.moka_hist.specs.State.{DeskPart}
use Rattle.moka_hist.specs.Visible.{is_invalid, is_past}
use Rattle.moka_hist.specs.Visits.{accessed_at, does_hit, is_replaced_by, is_seen}
use Rattle.moka_hist.specs.declared.predicates.Registered.{Registered}
use Rattle.moka_hist.specs.declared.records.Stored.{Stored}
use Rattle.moka_polls.specs.Times.{HasNoTimes, SeenWithoutTimes, StoredIsSeen}

module _ {K V E : Type 0} (w : DeskPart K V E) (replace : Option ℕ) (key : K) (stored : Stored V)
  where
    -- what is seen, by the times, by the moment from which records are valid and by the predicates
    abbrev seen_by : Option Duration → Option Duration → Option ℕ → List Registered → Bool
    seen_by live idle valid registered =
        not (is_replaced_by w replace key stored.value) &&
        not ((is_past live stored.modified w.clock ||
        is_past idle (accessed_at w stored.stamp stored.modified) w.clock) ||
        (is_invalid stored.modified valid ||
        is_invalid (accessed_at w stored.stamp stored.modified) valid) || list_any (does_hit w key stored) registered)

    stays : (b : Bool) → (b && true) ≡ b
    stays true = refl
    stays false = refl

    lasting : HasNoTimes w →
        is_seen w replace key stored ≡ not (is_replaced_by w replace key stored.value)
    lasting h =
        ap (λ o. seen_by o w.rules.time_to_idle w.valid_after w.registered) h.live ∙
        ap (λ o. seen_by None o w.valid_after w.registered) h.idle ∙
        ap (λ o. seen_by None None o w.registered) h.valid ∙
        ap (λ o. seen_by None None None o) h.unhit ∙
        stays (not (is_replaced_by w replace key stored.value))

module _ {K V E : Type 0} (eq : K → K → Bool) where
  pub seen_lasting : SeenWithoutTimes K V E eq
  seen_lasting w replace key stored h = lasting w replace key stored h

  pub stored_seen : StoredIsSeen K V E eq
  stored_seen s key h = by (s.world.table.stored key)
    where
      by : (pair : Option (K × Stored V)) →
          option_and_then (λ p. cond (is_seen s.world.desk None p.0 p.1) (Some p.1.value) None) pair ≡
          option_map (λ p. p.1.value) pair
      by None = refl
      by (Some p) = ap (λ b. cond b (Some p.1.value) None) (lasting s.world.desk None p.0 p.1 h)
