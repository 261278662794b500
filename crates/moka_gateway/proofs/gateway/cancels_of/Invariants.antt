-- The keys that are left are still cancelled.
use Rattle.std.proofs.Common.{◌≡◌, ◌++◌, length, map}
use Rattle.moka_collapsing.specs.declared.out.Out.TheVariants.{Cancel}
use Rattle.moka_gateway.proofs.gateway.cancels_of.Given as goal

abbrev pub invariant-loop-key : goal.invariant-loop-key
invariant-loop-key l = l.outs.items ++ map Cancel l.keys.keys ≡ map Cancel l.fn.keys.keys

abbrev pub decreases-loop-key : goal.decreases-loop-key
decreases-loop-key l = length l.keys.keys
