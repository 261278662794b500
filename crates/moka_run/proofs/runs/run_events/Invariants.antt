-- The events so far were answered, by a run through lawful states.
use Rattle.std.proofs.Common.{◌≡◌, ◌≤◌, take, drop, length, vec_len}
use Rattle.std.specs.Vec.{vec_capacity}
use Rattle.moka_hist.specs.State.{State}
use Rattle.moka_hist.specs.Places.{IsLawful}
use Rattle.moka_hist.specs.Run.{Run, IsReached}
use Rattle.moka_machine.specs.Machine.{MachineIs, IsValid}
use Rattle.moka_run.specs.Running.{told_in}
use Rattle.moka_run.proofs.runs.run_events.Given as goal

abbrev pub invariant-loop-event : goal.invariant-loop-event
invariant-loop-event g l =
    record {
      told : vec_len l.replies ≡ l.event-index;
      room : length l.events ≤ vec_capacity l.replies;
      valid : IsValid g.K.PartialEq.eq g.T.Tests l.cache;
      left : l.told.items ≡ told_in (drop l.event-index l.events);
      ran : (s : State _ _ _) → MachineIs g.K.PartialEq.eq g.T.Tests l.fn.cache s → IsReached g.K.PartialEq.eq s
          → (m : State _ _ _) × Run g.K.PartialEq.eq (IsLawful g.K.PartialEq.eq) s (take l.event-index l.events) l.replies.items m
          × MachineIs g.K.PartialEq.eq g.T.Tests l.cache m × IsReached g.K.PartialEq.eq m;
    }
