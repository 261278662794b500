use Rattle.moka_summary.proofs.Counting.{tally_next}
use Rattle.moka_summary.proofs.tally.Tally.count.Goals as goal

pub returns-clause-counts : goal.returns-clause-counts
returns-clause-counts c = λ replies is.
    tally_next replies c.args.reply.now c.args.self.now c.count_on.new.self c.count_on.ensures is
