-- What is left is still to be told.
use Rattle.std.proofs.Common.{◌≡◌, ◌++◌, flat_map, take}
use Rattle.moka_gateway_run.specs.Playing.{out_line}
use Rattle.moka_gateway_run.proofs.playing.push_outs.Given as goal

abbrev pub invariant-loop-out : goal.invariant-loop-out
invariant-loop-out l = l.text.items ≡ l.fn.text.items ++ flat_map out_line (take l.out-index l.outs)
