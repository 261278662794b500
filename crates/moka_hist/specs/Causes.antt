-- Why a record leaves.
use Rattle.std.specs.Prelude.{Bool, false, ◌||◌, is_some, if◌then◌else◌}
use Rattle.moka_hist.specs.Visible.{is_past_live, is_past_idle, is_expired, is_invalid, is_hidden}
use Rattle.moka_hist.specs.declared.rules.Rules.{Rules}
use Rattle.moka_hist.specs.declared.rules.Times.{Times}
use Rattle.moka_hist.specs.declared.rules.Cause.{Cause}
use Rattle.moka_hist.specs.declared.rules.Cause.TheVariants.{Expired, Explicit, Replaced, Size}

-- why a record leaves that a write takes the place of: past its time to live comes first, then an
-- invalidation since it was written, then past its time to idle
abbrev pub upsert_cause : Rules → Times → Cause
upsert_cause rules times =
    if is_past_live rules times then Expired
    else (if is_invalid times.modified times.valid_after then Explicit
    else (if is_past_idle rules times then Expired else Replaced))

-- why a record leaves that a call removes, whether or not an invalidation hides it
abbrev pub remove_cause : Rules → Times → Cause
remove_cause rules times = if is_expired rules times then Expired else Explicit

-- a record that was chosen for this cause has still to leave for it
abbrev pub chosen_holds : Rules → Times → Bool → Cause → Bool
chosen_holds rules times hit Size = is_some rules.max_capacity
chosen_holds rules times hit Explicit = is_hidden times || hit
chosen_holds rules times hit Expired = is_expired rules times
chosen_holds rules times hit Replaced = false
