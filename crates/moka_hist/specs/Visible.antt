-- Whether a record may be seen, by its times and the rules of its cache.
use Rattle.std.specs.Prelude.{ℕ, ◌+◌, ◌-◌, ◌^◌, min, Bool, false, not, ◌||◌, nat_lt, nat_le, Option, None, Some}
use Rattle.std.specs.Duration.{as_nanos}
use Rattle.std.specs.declared.time.Duration.{Duration}
use Rattle.moka_hist.specs.declared.rules.Rules.{Rules}
use Rattle.moka_hist.specs.declared.rules.Times.{Times}

-- the moment that comes so much after another, and the greatest moment where there is none
abbrev pub later : ℕ → Duration → ℕ
later moment duration = min (moment + as_nanos duration) (2 ^ 64 - 1)

-- a time is set, and has passed since the moment; at its last nanosecond it has
abbrev pub is_past : Option Duration → ℕ → ℕ → Bool
is_past None moment clock = false
is_past (Some duration) moment clock = nat_le (later moment duration) clock

-- the record's time to live has passed since it was written
abbrev pub is_past_live : Rules → Times → Bool
is_past_live rules times = is_past rules.time_to_live times.modified times.clock

-- the record's time to idle has passed since it was accessed
abbrev pub is_past_idle : Rules → Times → Bool
is_past_idle rules times = is_past rules.time_to_idle times.accessed times.clock

-- the record's time to live or its time to idle has passed
abbrev pub is_expired : Rules → Times → Bool
is_expired rules times = is_past_live rules times || is_past_idle rules times

-- records were invalidated, and the moment is earlier than the first that is valid
abbrev pub is_invalid : ℕ → Option ℕ → Bool
is_invalid moment None = false
is_invalid moment (Some valid_after) = nat_lt moment valid_after

-- an invalidation hides the record: its last write or its last access is earlier
abbrev pub is_hidden : Times → Bool
is_hidden times =
    is_invalid times.modified times.valid_after || is_invalid times.accessed times.valid_after

-- the record may be seen: it is neither expired nor hidden, and no invalidation by a test hits it
abbrev pub is_visible : Rules → Times → Bool → Bool
is_visible rules times hit = not (is_expired rules times || is_hidden times || hit)
