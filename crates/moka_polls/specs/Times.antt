-- What calls see where no record expires.
use Rattle.std.specs.Prelude.{◌≡◌, ℕ, Bool, not, [], Option, None}
use Rattle.moka_hist.specs.State.{DeskPart, State}
use Rattle.moka_hist.specs.Visits.{is_replaced_by, is_seen}
use Rattle.moka_hist.specs.declared.records.Stored.{Stored}
use Rattle.moka_polls.specs.Polls.{seen_in, value_at}

-- no time is set, and nothing was invalidated
pub record HasNoTimes {K V E : Type 0} (w : DeskPart K V E) : Type 0 where
  pub live : w.rules.time_to_live ≡ None
  pub idle : w.rules.time_to_idle ≡ None
  pub valid : w.valid_after ≡ None
  pub unhit : w.registered ≡ []

-- then a call sees a record unless its replace test holds on it
abbrev pub SeenWithoutTimes : (K V E : Type 0) → (K → K → Bool) → Type 0
SeenWithoutTimes K V E eq =
    (w : DeskPart K V E) (replace : Option ℕ) (key : K) (stored : Stored V) → HasNoTimes w →
    is_seen w replace key stored ≡ not (is_replaced_by w replace key stored.value)

-- and one without a test sees what is stored
abbrev pub StoredIsSeen : (K V E : Type 0) → (K → K → Bool) → Type 0
StoredIsSeen K V E eq =
    (s : State K V E) (key : K) → HasNoTimes s.world.desk →
    seen_in s.world.table s.world.desk None key ≡ value_at s key
