-- The machine stays valid from event to event.
use Rattle.std.proofs.Common.{nat_eq}
use Rattle.moka_machine.specs.Machine.{IsValid}
use Rattle.moka_machine.specs.NumberTest.{number_tests}
use Rattle.moka_run_cases.proofs.stepping.played.Given as goal

abbrev pub invariant-loop-event : goal.invariant-loop-event
invariant-loop-event l = IsValid nat_eq number_tests l.machine
