-- What is kept and what is left are together what was left at first.
use Rattle.std.proofs.Common.{◌≡◌, ◌-◌, ◌≤◌, ◌<◌, length, vec_len}
use Rattle.moka_ends.specs.Bytes.{Gives}
use Rattle.moka_ends.proofs.reads.read_all.Given as goal

abbrev pub invariant-loop-bytes : goal.invariant-loop-bytes
invariant-loop-bytes g l = record {
  gives : Gives (g.S.Source.left l.initial.source) l.bytes.items (g.S.Source.left l.source);
  fits : vec_len l.bytes ≤ l.most;
  chunk : 0 < length l.chunk;
  faults : g.S.Source.faults l.source ≡ g.S.Source.faults l.initial.source;
}

abbrev pub decreases-loop-bytes : goal.decreases-loop-bytes
decreases-loop-bytes g l = l.most - vec_len l.bytes
