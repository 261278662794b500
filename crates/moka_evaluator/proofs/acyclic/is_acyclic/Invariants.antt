use Rattle.moka_evaluator.proofs.Earlier.{PassTo}
use Rattle.moka_evaluator.proofs.acyclic.is_acyclic.Given as goal

-- each rule so far builds on earlier ones
abbrev pub invariant-loop-earlier : goal.invariant-loop-earlier
invariant-loop-earlier l = PassTo l.rules l.earlier
