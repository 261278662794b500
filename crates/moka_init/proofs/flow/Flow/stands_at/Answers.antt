-- The flow stands at the point, and is else as it was.
use Rattle.moka_init.proofs.Same.{at_point}
use Rattle.moka_init.proofs.flow.Flow.stands_at.Goals as goal

pub returns-then-is_spent : goal.returns-then-is_spent
returns-then-is_spent g c = at_point c.args.self.now _ _ _ c.replace.ensures.after

pub returns-else-is_spent : goal.returns-else-is_spent
returns-else-is_spent g c = at_point c.args.self.now _ _ _ c.replace-else-is_spent.ensures.after
