use Rattle.std.proofs.Common.{◌≡◌, length, drop}
use Rattle.moka_growth.specs.Growing.{pairs_placed, laid_out}
use Rattle.moka_calls.proofs.layout.lay_out.Given as goal

abbrev pub invariant-loop-node : goal.invariant-loop-node
invariant-loop-node l = record {
  long : length l.laid.items ≡ l.size;
  laid : pairs_placed l.laid.items (drop l.node-index l.kept) ≡ laid_out l.kept l.size;
}
