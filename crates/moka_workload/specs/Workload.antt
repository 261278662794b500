-- The workload of so many turns: a function of their number and of a seed.
use Rattle.std.specs.Prelude.{ℕ, zero, suc, ◌+◌, List, [], ◌++◌}
use Rattle.moka_hist.specs.declared.events.Event.{Event}
use Rattle.moka_workload.specs.declared.turn.Turn.{Turn}
use Rattle.moka_workload.specs.Turns.{calls_in, events_in, turn_by}
use Rattle.moka_workload.specs.Words.{word_after}

-- the next turn after n others, and these events of theirs: the next call's number is one more than
-- how many calls were started
abbrev pub turn_after : ℕ → ℕ → List (Event ℕ ℕ ℕ) → Turn
turn_after n seed events = turn_by (n + 1) (word_after seed n) (calls_in events + 1)

-- the events of n turns
unfoldable pub workload : ℕ → ℕ → List (Event ℕ ℕ ℕ)
workload zero seed = []
workload (suc n) seed = workload n seed ++ events_in (turn_after n seed (workload n seed))
