use Rattle.moka_calls.proofs.Laying.{reckoned}
use Rattle.moka_calls.proofs.layout.bucket_at.Goals as goal

pub returns-clause-bucket : goal.returns-clause-bucket
returns-clause-bucket c = reckoned c.args.hash c.args.passed c.args.size c.requires.power
