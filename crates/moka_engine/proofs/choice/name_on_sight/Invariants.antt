-- The names are those of the records seen so far.
use Rattle.std.proofs.Common.{◌≡◌, take}
use Rattle.moka_engine.specs.Choice.{named_on_sight}
use Rattle.moka_engine.proofs.choice.name_on_sight.Given as goal

abbrev pub invariant-loop-record : goal.invariant-loop-record
invariant-loop-record g l = l.names.items ≡ named_on_sight l.rules (take l.record-index l.known)
