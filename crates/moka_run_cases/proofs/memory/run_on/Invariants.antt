-- The machine stays valid however often it is run on.
use Rattle.std.proofs.Common.{nat_eq}
use Rattle.moka_machine.specs.Machine.{IsValid}
use Rattle.moka_machine.specs.NumberTest.{number_tests}
use Rattle.moka_run_cases.proofs.memory.run_on.Given as goal

abbrev pub invariant-loop-try : goal.invariant-loop-try
invariant-loop-try g l = IsValid nat_eq number_tests l.machine
