-- The machine stays one that stands for a reached state.
use Rattle.std.proofs.Common.{nat_eq}
use Rattle.moka_machine.specs.Machine.{IsValid}
use Rattle.moka_polled.specs.Tests.{no_tests}
use Rattle.moka_polled_speed.proofs.by_machine.found_in.Given as goal

abbrev pub invariant-loop : goal.invariant-loop
invariant-loop l = IsValid nat_eq no_tests l.machine
