-- The turns so far have run.
use Rattle.std.proofs.Common.{◌≡◌, ◌≤◌, ℕ, ◌*◌, nat_eq}
use Rattle.moka_hist.specs.State.{State}
use Rattle.moka_hist.specs.Run.{IsReached}
use Rattle.moka_machine.specs.Machine.{IsValid, MachineIs}
use Rattle.moka_machine.specs.NumberTest.{number_tests}
use Rattle.moka_workload.specs.Workload.{workload}
use Rattle.moka_make.specs.Running.{Ran}
use Rattle.moka_make.proofs.running.run_workload.Given as goal

abbrev pub invariant-loop : goal.invariant-loop
invariant-loop l =
    record {
      made : l.made ≡ record { seed = l.seed; turns = l.counter };
      valid : IsValid nat_eq number_tests l.cache;
      few : l.replies.events ≤ 13 * l.counter;
      ran : (first : State ℕ ℕ ℕ) → MachineIs nat_eq number_tests l.fn.cache first
          → IsReached nat_eq first → Ran first (workload l.counter l.seed) l.replies l.cache;
    }
