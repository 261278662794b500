-- The machine stays valid from step to step.
use Rattle.std.proofs.Common.{nat_eq}
use Rattle.moka_machine.specs.Machine.{IsValid}
use Rattle.moka_machine.specs.NumberTest.{number_tests}
use Rattle.moka_run_cases.proofs.stepping.poll_by_steps.Given as goal

abbrev pub invariant-loop-step : goal.invariant-loop-step
invariant-loop-step l = IsValid nat_eq number_tests l.machine
