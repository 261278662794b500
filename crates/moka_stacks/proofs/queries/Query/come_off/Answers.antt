-- The frame below is the nearest.
use Rattle.std.proofs.Common.{◌≡◌, Some, sym, ap, ◌∙◌}
use Rattle.moka_evaluator.specs.Steps.{off}
use Rattle.moka_stacks.specs.Queries.{nearest_first}
use Rattle.moka_stacks.proofs.Nearest.{added}
use Rattle.moka_stacks.proofs.queries.Query.come_off.Goals as goal

pub returns-in-Some-clause-left : goal.returns-in-Some-clause-left
returns-in-Some-clause-left c =
    (λ i. Some (record {
      top = record { rule = c.in-Some.frame.rule; owns = c.in-Some.frame.owns; operands = c.with.ensures i };
      below = nearest_first c.pop.new.self.items;
    })) ∙
    sym (ap (λ fs. (off fs c.args.value).1)
    (ap nearest_first c.in-Some.ensures.items ∙ added c.pop.new.self.items c.in-Some.frame))
