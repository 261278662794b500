-- Its top frame owns its rule, or seeks it.
use Rattle.std.proofs.Common.{sym, ap, ◌∙◌, subst}
use Rattle.std.proofs.lemmas.Result.{IfOk-weaker}
use Rattle.moka_memo.specs.Memo.{Turns}
use Rattle.moka_memo.proofs.Tops.{seeks_is, works_is}
use Rattle.moka_memo.proofs.memo.Memo.turn_top.Goals as goal

pub returns-then-top : goal.returns-then-top
returns-then-top c = IfOk-weaker c.work.result _ _ (λ turn came e s is at same.
    subst (Turns c.work.new.self turn) (sym (works_is e c.args.query s (ap (λ f. f.owns) same ∙ c.if-top.true))) (came e s is at same))
    c.work.ensures

pub returns-else-top : goal.returns-else-top
returns-else-top c = IfOk-weaker c.seek.result _ _ (λ turn came e s is at same.
    subst (Turns c.seek.new.self turn) (sym (seeks_is e c.args.query s (ap (λ f. f.owns) same ∙ c.if-top.false))) (came e s is at same))
    c.seek.ensures
