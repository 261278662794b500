-- The events of the turn so far have run.
use Rattle.std.proofs.Common.{◌≡◌, ℕ, ◌+◌, List, ◌++◌, take, nat_eq}
use Rattle.moka_hist.specs.State.{State}
use Rattle.moka_hist.specs.declared.events.Event.{Event}
use Rattle.moka_machine.specs.Machine.{IsValid}
use Rattle.moka_machine.specs.NumberTest.{number_tests}
use Rattle.moka_workload.specs.Turns.{events_in}
use Rattle.moka_make.specs.Running.{Ran}
use Rattle.moka_make.proofs.running.run_turn.Given as goal

abbrev pub invariant-loop-at : goal.invariant-loop-at
invariant-loop-at l =
    record {
      valid : IsValid nat_eq number_tests l.cache;
      counted : l.replies.events ≡ l.fn.replies.events + l.at;
      going : (first : State ℕ ℕ ℕ) (before : List (Event ℕ ℕ ℕ))
          → Ran first before l.fn.replies l.fn.cache
          → Ran first (before ++ take l.at (events_in l.turn)) l.replies l.cache;
    }
