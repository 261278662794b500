-- Times of 64 bits in nanoseconds are shorter than a thousand years.
use Rattle.std.proofs.Common.{◌≡◌, ◌<◌, ◌^◌, false, cond, Option, Some, None, IfSome, refl, sym, ap, subst, ◌∙◌, arith}
use Rattle.std.specs.Option.{option_map}
use Rattle.std.specs.Duration.{as_nanos}
use Rattle.std.specs.declared.time.Duration.{Duration}
use Rattle.moka_hist.specs.Settings.{AreRulesOf, is_too_long, refusal_of}
use Rattle.moka_hist.specs.declared.build_error.BuildError.TheVariants.{TimeToLiveTooLong, TimeToIdleTooLong}
use Rattle.moka_hist.specs.declared.rules.Rules.{Rules}
use Rattle.moka_hist.specs.declared.settings.Settings.{Settings}
use Rattle.moka_text.specs.ScheduleText.{SettingsFit}

-- a time of so few nanoseconds isn't too long
fits : (time : Option Duration) → IfSome (option_map as_nanos time) (λ n. n < 2 ^ 64) → is_too_long time ≡ false
fits None h = refl
fits (Some time) h = grind (arith, h)

pub never_refused : (settings : Settings) (rules : Rules) → SettingsFit settings → AreRulesOf settings rules → refusal_of rules ≡ None
never_refused settings rules fit are =
    let live : is_too_long rules.time_to_live ≡ false = fits rules.time_to_live (subst (λ o. IfSome o (λ n. n < 2 ^ 64)) (sym are.live) fit.live) in
    let idle : is_too_long rules.time_to_idle ≡ false = fits rules.time_to_idle (subst (λ o. IfSome o (λ n. n < 2 ^ 64)) (sym are.idle) fit.idle) in
    ap (λ b. cond b (Some TimeToLiveTooLong) (cond (is_too_long rules.time_to_idle) (Some TimeToIdleTooLong) None)) live
    ∙ ap (λ b. cond b (Some TimeToIdleTooLong) None) idle
