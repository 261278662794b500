-- The step by which predicates leave is made, by the access that it wants.
use Rattle.moka_hist.specs.declared.replies.Answer.TheVariants as answer
use Rattle.moka_hist.specs.declared.accesses.Turn.TheVariants as turn
use Rattle.moka_init.proofs.Stepping.{moves_so}
use Rattle.moka_init.proofs.goings.leave.Goals as goal

pub returns-clause-moves : goal.returns-clause-moves
returns-clause-moves g c =
    let given = c.in_ok-lend.field-0 in
    moves_so g.K.PartialEq.eq c.args.flow.now c.retires.new.self (turn.Answer answer.Done) given (g.G.Ground.stands c.args.ground.now) (g.G.Ground.stands c.lend.new.ground)
    c.in_ok-lend.ensures.gives c.in_ok-lend.ensures.tells.form (c.retires.ensures.next given c.in_ok-lend.ensures.tells.form)
