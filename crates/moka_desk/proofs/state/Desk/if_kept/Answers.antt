use Rattle.std.proofs.Common.{cond, Some, None, sym, ap, ◌∙◌}
use Rattle.moka_desk.proofs.state.Desk.if_kept.Goals as goal

pub returns-in-true : goal.returns-in-true
returns-in-true g c = ap (λ b. cond b (Some c.args.number) None) (sym c.in-true.is ∙ c.is_kept.ensures)

pub returns-in-false : goal.returns-in-false
returns-in-false g c = ap (λ b. cond b (Some c.args.number) None) (sym c.in-false.is ∙ c.is_kept.ensures)
