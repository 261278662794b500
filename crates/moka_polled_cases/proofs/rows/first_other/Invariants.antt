-- The cache stays as it may be used.
use Rattle.std.proofs.Common.{nat_eq}
use Rattle.moka_polled.specs.Polled.{AnySmall, IsUsable}
use Rattle.moka_polled_cases.proofs.rows.first_other.Given as goal

abbrev pub invariant-loop-row : goal.invariant-loop-row
invariant-loop-row l = IsUsable nat_eq l.polled AnySmall
