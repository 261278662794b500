use Rattle.moka_parts.proofs.Lending.{answer_meets}
use Rattle.moka_parts.proofs.parts.PartsSharedTable.put_if_absent.Goals as goal

pub returns-clause-answers : goal.returns-clause-answers
returns-clause-answers g c = answer_meets (g.F.Fact.holds c.args.key) c.args.key c.put_if_absent.result c.put_if_absent.ensures.fact
