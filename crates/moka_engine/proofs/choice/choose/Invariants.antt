-- The names are those on sight, and then of the oldest so far.
use Rattle.std.proofs.Common.{◌≡◌, ◌++◌, take, map}
use Rattle.moka_hist.specs.declared.rules.Cause.TheVariants.{Size}
use Rattle.moka_engine.specs.Choice.{named_for}
use Rattle.moka_engine.proofs.choice.choose.Given as goal

abbrev pub invariant-loop-record : goal.invariant-loop-record
invariant-loop-record g l =
    l.names.items ≡ l.initial.names.items ++ map (λ x. named_for Size x.now) (take l.record-index l.record-items)
