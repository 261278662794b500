-- Which rules read when a record was last accessed, and by which times they judge it.
use Rattle.std.specs.Prelude.{◌≡◌, ◌≤◌, ℕ, Bool, true, is_some}
use Rattle.moka_hist.specs.State.{DeskPart}
use Rattle.moka_hist.specs.Visible.{is_visible}
use Rattle.moka_hist.specs.Visits.{times_at}
use Rattle.moka_hist.specs.declared.rules.Rules.{Rules}
use Rattle.moka_hist.specs.declared.rules.Times.{Times}

-- a time to idle (no visit chooses records by size, so a capacity reads none)
abbrev pub reads_moments : Rules → Bool
reads_moments rules = is_some rules.time_to_idle

-- the times are the same to the rules: they differ at most in when the record was last accessed,
-- where no rule reads that; and by neither was that before its write
pub record AreAlike (rules : Rules) (t u : Times) : Type 0 where
  pub clock : t.clock ≡ u.clock
  pub valid : t.valid_after ≡ u.valid_after
  pub modified : t.modified ≡ u.modified
  pub accessed : reads_moments rules ≡ true → t.accessed ≡ u.accessed
  pub since : (t.modified ≤ t.accessed) × (u.modified ≤ u.accessed)

-- the record of this stamp, last written at the moment, is visible by the clock, where a predicate
-- hits it or none does
abbrev pub is_shown : {K V E : Type 0} → DeskPart K V E → Bool → ℕ → ℕ → Bool
is_shown w hit stamp modified = is_visible w.rules (times_at w stamp modified) hit
