-- The machine stays valid from act to act.
use Rattle.std.proofs.Common.{nat_eq}
use Rattle.moka_machine.specs.Machine.{IsValid}
use Rattle.moka_machine.specs.NumberTest.{number_tests}
use Rattle.moka_run_cases.proofs.orders.first_wrong.Given as goal

abbrev pub invariant-loop : goal.invariant-loop
invariant-loop l = IsValid nat_eq number_tests l.machine
