use Rattle.moka_parts.proofs.Steps.{just_opened}
use Rattle.moka_parts.proofs.front.Front.of.Goals as goal

pub invariant_of-result : goal.invariant_of-result
invariant_of-result g c = (c.requires.book, just_opened g.K.PartialEq.eq c.requires.log.0 c.args.seen.log c.requires.log.1)
