-- How far a run on a workload has come.
use Rattle.std.specs.Prelude.{◌≡◌, ℕ, List, nat_eq}
use Rattle.std.specs.declared.cmp.PartialEq as PartialEq
use Rattle.std.specs.declared.hash.Hash as Hash
use Rattle.moka_hist.specs.State.{State}
use Rattle.moka_hist.specs.Places.{IsLawful}
use Rattle.moka_hist.specs.Run.{Run, IsReached}
use Rattle.moka_hist.specs.declared.events.Event.{Event}
use Rattle.moka_hist.specs.declared.replies.Reply.{Reply}
use Rattle.moka_machine.specs.Machine.{MachineIs}
use Rattle.moka_machine.specs.NumberTest.{number_tests}
use Rattle.moka_machine.specs.declared.machine.Machine.{Machine}
use Rattle.moka_machine.specs.declared.number_tests.NumberTests.{NumberTests}
use Rattle.moka_summary.specs.Counts.{Counts, tally}

-- The machine stands for a state to which a run on these events leads from the first state, through
-- lawful states, and these are the counts of its replies.
pub record Ran {same : PartialEq.Ghosts ℕ} {hash : Hash.Ghosts ℕ} (first : State ℕ ℕ ℕ)
    (events : List (Event ℕ ℕ ℕ)) (counts : Counts) (cache : Machine ℕ ℕ ℕ NumberTests same hash)
    : Type 0 where
  pub replies : List (Reply ℕ ℕ ℕ)
  pub counted : counts ≡ tally replies
  pub final : State ℕ ℕ ℕ
  pub run : Run nat_eq (IsLawful nat_eq) first events replies final
  pub stands : MachineIs nat_eq number_tests cache final
  pub reached : IsReached nat_eq final
