-- The machine stays valid from step to step.
use Rattle.std.proofs.Common.{nat_eq}
use Rattle.moka_machine.specs.Machine.{IsValid}
use Rattle.moka_machine.specs.NumberTest.{number_tests}
use Rattle.moka_run_cases.proofs.counting.drive_poll.Given as goal

abbrev pub invariant-loop-made : goal.invariant-loop-made
invariant-loop-made l = IsValid nat_eq number_tests l.machine
