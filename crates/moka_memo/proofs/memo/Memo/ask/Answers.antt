-- Unless it is spent, it stands for an evaluator, and keeps its promises.
use Rattle.std.proofs.Common.{ap}
use Rattle.moka_evaluator.specs.Steps.{asked}
use Rattle.moka_evaluator.proofs.Keeping.{asked_keeps}
use Rattle.moka_memo.proofs.Promising.{asks_for, loads_once}
use Rattle.moka_memo.proofs.Usable.{spent_usable, usable_after}
use Rattle.moka_memo.proofs.memo.Memo.ask.Goals as goal

pub ask_unspent-requires : goal.ask_unspent-requires
ask_unspent-requires c = c.requires.usable c.if-self.false

pub returns-in-Ok-clause-usable : goal.returns-in-Ok-clause-usable
returns-in-Ok-clause-usable c =
    usable_after c.args.self.now c.ask_unspent.new.self (λ e. (asked e c.args.rule).1) c.if-self.false c.requires.usable
    (λ e is. (c.in-Ok.ensures e is).1)

pub returns-in-Err-clause-usable : goal.returns-in-Err-clause-usable
returns-in-Err-clause-usable c = spent_usable c.spend.new.self (ap (λ m. m.spent) c.spend.ensures)

pub returns-in-Ok-clause-asks : goal.returns-in-Ok-clause-asks
returns-in-Ok-clause-asks c =
    asks_for c.args.self.now c.ask_unspent.new.self c.if-self.false c.requires.usable c.args.rule c.in-Ok.query c.in-Ok.ensures

pub returns-in-Ok-clause-keeps : goal.returns-in-Ok-clause-keeps
returns-in-Ok-clause-keeps c = λ e is. asked_keeps e is.sound c.args.rule

pub returns-in-Ok-clause-once : goal.returns-in-Ok-clause-once
returns-in-Ok-clause-once c = loads_once c.ask_unspent.new.self
