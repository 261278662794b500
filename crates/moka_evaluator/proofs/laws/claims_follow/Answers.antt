use Rattle.moka_evaluator.proofs.Claiming.{fresh_are}
use Rattle.moka_evaluator.proofs.laws.claims_follow.Goals as goal

pub returns : goal.returns
returns c = record { fresh = fresh_are }
