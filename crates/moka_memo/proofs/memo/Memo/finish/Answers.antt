-- Unless it is spent, it stands for an evaluator, and keeps its promises.
use Rattle.std.proofs.Common.{ap}
use Rattle.moka_evaluator.specs.Finishing.{finished}
use Rattle.moka_evaluator.proofs.Keeping.{finished_keeps}
use Rattle.moka_memo.proofs.Promising.{loads_once, plain_finish}
use Rattle.moka_memo.proofs.Finishing.{none_lives}
use Rattle.moka_memo.proofs.Usable.{spent_usable, usable_after}
use Rattle.moka_memo.proofs.memo.Memo.finish.Goals as goal

pub finish_unspent-requires : goal.finish_unspent-requires
finish_unspent-requires c = c.requires.usable c.if-self.false

pub returns-in-Ok-clause-none_live : goal.returns-in-Ok-clause-none_live
returns-in-Ok-clause-none_live c = none_lives c.finish_unspent.new.self c.in-Ok.ensures.none

pub returns-in-Ok-clause-usable : goal.returns-in-Ok-clause-usable
returns-in-Ok-clause-usable c =
    usable_after c.args.self.now c.finish_unspent.new.self (λ e. (finished e).1) c.if-self.false c.requires.usable
    (λ e is. (c.in-Ok.ensures.finished e is).1)

pub returns-in-Err-clause-usable : goal.returns-in-Err-clause-usable
returns-in-Err-clause-usable c = spent_usable c.spend.new.self (ap (λ m. m.spent) c.spend.ensures)

pub returns-in-Ok-clause-plain : goal.returns-in-Ok-clause-plain
returns-in-Ok-clause-plain c =
    λ e is. plain_finish c.args.self.now e is c.in-Ok.answers.items (c.in-Ok.ensures.finished e is).0

pub returns-in-Ok-clause-keeps : goal.returns-in-Ok-clause-keeps
returns-in-Ok-clause-keeps c = λ e is. finished_keeps e is.sound

pub returns-in-Ok-clause-once : goal.returns-in-Ok-clause-once
returns-in-Ok-clause-once c = loads_once c.finish_unspent.new.self
