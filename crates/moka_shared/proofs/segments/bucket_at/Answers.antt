use Rattle.moka_shared.proofs.Placed.{reckoned}
use Rattle.moka_shared.proofs.segments.bucket_at.Goals as goal

pub returns-clause-bucket : goal.returns-clause-bucket
returns-clause-bucket c = reckoned c.args.hash c.args.passed c.args.size c.requires.power
