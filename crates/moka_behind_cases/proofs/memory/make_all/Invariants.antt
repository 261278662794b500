-- The cache stays as it may be used.
use Rattle.moka_behind.specs.Behind.{IsUsable}
use Rattle.moka_behind_cases.proofs.memory.make_all.Given as goal

abbrev pub invariant-loop-index : goal.invariant-loop-index
invariant-loop-index l = IsUsable l.behind
