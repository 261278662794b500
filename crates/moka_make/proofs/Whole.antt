-- No event of a workload is a single step, or starts a walk.
use Rattle.std.proofs.Common.{ℕ, zero, suc, ◌+◌, ◌%◌, ◌==◌, Bool, true, false, List, [], ◌∷◌, ◌++◌}
use Rattle.std.specs.Prelude.{if◌then◌else◌}
use Rattle.std.specs.List.{AllByRecursion}
use Rattle.moka_hist.specs.declared.events.Event.{Event}
use Rattle.moka_same.specs.Alike.{IsWhole}
use Rattle.moka_workload.specs.Turns.{calls_in, events_in, events_of, maintenance}
use Rattle.moka_workload.specs.Workload.{turn_after, workload}
use Rattle.moka_workload.specs.declared.action.Action.{Action}
use Rattle.moka_workload.specs.declared.action.Action.TheVariants as action
use Rattle.moka_workload.specs.declared.turn.Turn.{Turn}

-- all events are such
abbrev AreWhole : List (Event ℕ ℕ ℕ) → Type 0
AreWhole es = AllByRecursion IsWhole es

both : (es fs : List (Event ℕ ℕ ℕ)) → AreWhole es → AreWhole fs → AreWhole (es ++ fs)
both [] fs h k = k
both (e ∷ es) fs h k = (h.0, both es fs h.1 k)

action_whole : (a : Action) (k v c : ℕ) → AreWhole (events_of a k v c)
action_whole action.Get k v c = (tt, (tt, tt))
action_whole action.Insert k v c = (tt, (tt, (tt, (tt, tt))))
action_whole action.DroppedInsert k v c = (tt, (tt, (tt, (tt, tt))))
action_whole action.TwoLoads k v c =
    (tt, (tt, (tt, (tt, (tt, (tt, (tt, (tt, (tt, (tt, tt))))))))))
action_whole action.Remove k v c = (tt, (tt, (tt, (tt, tt))))
action_whole action.Compute k v c = (tt, (tt, (tt, (tt, (tt, (tt, tt))))))

turn_whole : (t : Turn) → AreWhole (events_in t)
turn_whole t = (
  tt,
  both (events_of t.action t.key t.value t.call) _
      (action_whole t.action t.key t.value t.call) (by (t.number % 100 == 0)),
)
  where
    by : (b : Bool) → AreWhole
        (if b then maintenance (t.call + calls_in (events_of t.action t.key t.value t.call)) else [])
    by true = (tt, (tt, tt))
    by false = tt

pub workload_whole : (turns seed : ℕ) → AllByRecursion IsWhole (workload turns seed)
unfolding workload
workload_whole zero seed = tt
workload_whole (suc n) seed = both (workload n seed) (events_in (turn_after n seed (workload n seed)))
    (workload_whole n seed) (turn_whole (turn_after n seed (workload n seed)))
