-- What a cache is built with, in numbers, and when it isn't built.
use Rattle.std.specs.Prelude.{◌≡◌, ◌*◌, ◌^◌, Bool, false, nat_lt, Option, None, Some, if◌then◌else◌}
use Rattle.std.specs.Option.{option_map}
use Rattle.std.specs.Duration.{as_nanos}
use Rattle.std.specs.declared.time.Duration.{Duration}
use Rattle.moka_hist.specs.declared.build_error.BuildError.{BuildError}
use Rattle.moka_hist.specs.declared.build_error.BuildError.TheVariants.{TimeToLiveTooLong, TimeToIdleTooLong}
use Rattle.moka_hist.specs.declared.rules.Rules.{Rules}
use Rattle.moka_hist.specs.declared.settings.Settings.{Settings}

-- the rules are those of the settings. A duration isn't known by its nanoseconds, so several rules
-- may be.
pub record AreRulesOf (settings : Settings) (rules : Rules) : Type 0 where
  pub capacity : rules.max_capacity ≡ settings.max_capacity
  pub live : option_map as_nanos rules.time_to_live ≡ settings.time_to_live
  pub idle : option_map as_nanos rules.time_to_idle ≡ settings.time_to_idle
  pub listener : rules.listener ≡ settings.listener
  pub closures : rules.closures ≡ settings.closures

-- a time is set that is longer than a thousand years of 365 days
abbrev pub is_too_long : Option Duration → Bool
is_too_long None = false
is_too_long (Some duration) = nat_lt (31536000000 * 10 ^ 9) (as_nanos duration)

-- why no cache of these rules is built, if none is: the time to live is looked at first
abbrev pub refusal_of : Rules → Option BuildError
refusal_of rules =
    if is_too_long rules.time_to_live then Some TimeToLiveTooLong
    else (if is_too_long rules.time_to_idle then Some TimeToIdleTooLong else None)
