use Rattle.std.proofs.Common.{◌≡◌, ◌+◌, ◌≤◌, length}
use Rattle.moka_lines.specs.Lines.{lines}
use Rattle.moka_text.specs.ScheduleReading.{events_from, with_front}
use Rattle.moka_text.proofs.schedules.read_events.Given as goal

abbrev pub invariant-loop-rest : goal.invariant-loop-rest
invariant-loop-rest l =
    record {
      left : with_front l.events.items (events_from l.number (lines l.rest)) ≡ events_from 2 (lines l.fn.text);
      count : l.number + length l.rest ≤ length l.fn.text + 2;
      two : 2 ≤ l.number;
    }

abbrev pub decreases-loop-rest : goal.decreases-loop-rest
decreases-loop-rest l = length l.rest
