-- Unless it is spent, it stands for an evaluator, and keeps its promises.
use Rattle.std.proofs.Common.{ap}
use Rattle.moka_evaluator.specs.Steps.{turned}
use Rattle.moka_evaluator.proofs.Keeping.{turned_keeps}
use Rattle.moka_memo.proofs.Promising.{loads_once, plain_turn}
use Rattle.moka_memo.proofs.Usable.{spent_usable, usable_after}
use Rattle.moka_memo.proofs.memo.Memo.turn.Goals as goal

pub turn_unspent-requires : goal.turn_unspent-requires
turn_unspent-requires c = c.requires.usable c.if-self.false

pub returns-in-Ok-clause-usable : goal.returns-in-Ok-clause-usable
returns-in-Ok-clause-usable c =
    usable_after c.args.self.now c.turn_unspent.new.self (λ e. (turned e c.args.query).1) c.if-self.false c.requires.usable
    (λ e is. (c.in-Ok.ensures e is).1)

pub returns-in-Err-clause-usable : goal.returns-in-Err-clause-usable
returns-in-Err-clause-usable c = spent_usable c.spend.new.self (ap (λ m. m.spent) c.spend.ensures)

pub returns-in-Ok-clause-plain : goal.returns-in-Ok-clause-plain
returns-in-Ok-clause-plain c =
    λ e is. plain_turn c.args.self.now e is c.args.query c.in-Ok.turn (c.in-Ok.ensures e is).0

pub returns-in-Ok-clause-keeps : goal.returns-in-Ok-clause-keeps
returns-in-Ok-clause-keeps c = λ e is. turned_keeps e c.args.query is.sound

pub returns-in-Ok-clause-once : goal.returns-in-Ok-clause-once
returns-in-Ok-clause-once c = loads_once c.turn_unspent.new.self
