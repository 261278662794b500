-- The records kept are those that stay of the records seen so far.
use Rattle.std.proofs.Common.{◌≡◌, take, map}
use Rattle.moka_engine.specs.Choice.{staying}
use Rattle.moka_engine.proofs.choice.oldest_first.Given as goal

abbrev pub invariant-loop-record : goal.invariant-loop-record
invariant-loop-record g l = map (λ x. x.now) l.order.items ≡ staying l.rules (take l.record-index l.known)
