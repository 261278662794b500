-- The sink was written the bytes up to `done`.
use Rattle.std.proofs.Common.{◌≡◌, ◌-◌, ◌≤◌, length, take}
use Rattle.moka_ends.specs.Bytes.{Extends}
use Rattle.moka_ends.proofs.writes.write_all.Given as goal

abbrev pub invariant-loop-done : goal.invariant-loop-done
invariant-loop-done g l = record {
  within : l.done ≤ length l.bytes;
  written : Extends (g.S.Sink.written l.initial.sink) (take l.done l.bytes) (g.S.Sink.written l.sink);
  faults : g.S.Sink.faults l.sink ≡ g.S.Sink.faults l.initial.sink;
}

abbrev pub decreases-loop-done : goal.decreases-loop-done
decreases-loop-done g l = length l.bytes - l.done
