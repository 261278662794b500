-- The numbers are those of the live queries, in order.
use Rattle.std.proofs.Common.{◌∙◌, subst}
use Rattle.std.proofs.lemmas.Result.{on_ok_weaker}
use Rattle.moka_evaluator.specs.Finishing.{take_turns}
use Rattle.moka_memo.proofs.Finishing.{Came, numbers_live}
use Rattle.moka_memo.proofs.memo.Memo.round.Goals as goal

pub returns : goal.returns
returns c = on_ok_weaker c.take_turns.result (λ came e is.
    subst (λ queries. Came c.take_turns.new.self c.args.answers.now.items c.take_turns.new.answers.items (take_turns e queries))
    (c.deref.ensures.value ∙ numbers_live c.args.self.now e is c.in_ok-queries.queries.items c.in_ok-queries.ensures) (came e is))
    c.take_turns.ensures
