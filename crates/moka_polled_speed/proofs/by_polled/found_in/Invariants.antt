-- The cache stays as it may be used.
use Rattle.std.proofs.Common.{nat_eq}
use Rattle.moka_polled.specs.Polled.{AnySmall, IsUsable}
use Rattle.moka_polled_speed.proofs.by_polled.found_in.Given as goal

abbrev pub invariant-loop : goal.invariant-loop
invariant-loop l = IsUsable nat_eq l.polled AnySmall
