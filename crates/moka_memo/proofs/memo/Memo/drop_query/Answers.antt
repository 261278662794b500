-- Unless it is spent, it stands for an evaluator, and keeps its promises.
use Rattle.moka_evaluator.specs.Steps.{dropped}
use Rattle.moka_evaluator.proofs.Keeping.{dropped_keeps}
use Rattle.moka_memo.proofs.Promising.{loads_once}
use Rattle.moka_memo.proofs.Usable.{usable_after}
use Rattle.moka_memo.proofs.memo.Memo.drop_query.Goals as goal

pub drop_unspent-requires : goal.drop_unspent-requires
drop_unspent-requires c = c.requires.usable c.if-self.false

pub returns-clause-usable : goal.returns-clause-usable
returns-clause-usable c =
    usable_after c.args.self.now c.drop_unspent.new.self (λ e. (dropped e c.args.query).1) c.if-self.false c.requires.usable
    (λ e is. (c.drop_unspent.ensures e is).1)

pub returns-clause-keeps : goal.returns-clause-keeps
returns-clause-keeps c = λ e is. dropped_keeps e is.sound c.args.query

pub returns-clause-once : goal.returns-clause-once
returns-clause-once c = loads_once c.drop_unspent.new.self
