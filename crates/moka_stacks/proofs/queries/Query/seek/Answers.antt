-- The top frame is the nearest from now on.
use Rattle.std.proofs.Common.{ap, ◌∙◌}
use Rattle.moka_stacks.specs.Queries.{nearest_first}
use Rattle.moka_stacks.proofs.Nearest.{added}
use Rattle.moka_stacks.proofs.queries.Query.seek.Goals as goal

pub returns : goal.returns
returns c = λ i. record {
  top = c.seek-self.ensures i;
  below = (ap nearest_first c.in_ok-push.ensures.items ∙ added c.args.self.now.below.items c.args.self.now.top) i;
}
