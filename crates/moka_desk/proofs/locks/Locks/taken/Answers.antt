use Rattle.std.proofs.Common.{cond, sym, ap, ◌∙◌}
use Rattle.moka_hist.specs.declared.visits.LockTaken.TheVariants as taken
use Rattle.moka_desk.proofs.locks.Locks.taken.Goals as goal

pub returns-in-true : goal.returns-in-true
returns-in-true g c = ap (λ b. cond b (taken.Kept c.args.holder) taken.Held) (sym c.in-true.is ∙ c.is_kept.ensures)

pub returns-in-false : goal.returns-in-false
returns-in-false g c = ap (λ b. cond b (taken.Kept c.args.holder) taken.Held) (sym c.in-false.is ∙ c.is_kept.ensures)
