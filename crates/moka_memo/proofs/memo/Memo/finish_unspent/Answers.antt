-- Rounds of turns, until none is live.
use Rattle.std.proofs.Common.{◌≡◌, ◌<◌, subst, sym, arith}
use Rattle.moka_stacks.specs.Queries.{count_of}
use Rattle.moka_memo.proofs.Finishing.{SoFar, all_came, another, begin, fewer_moves}
use Rattle.moka_memo.proofs.memo.Memo.finish_unspent.Goals as goal

pub rounds-init : goal.rounds-init
rounds-init c = λ e is. subst (λ xs. SoFar c.args.self.now xs e) (sym c.new-answers.ensures.items) (begin c.args.self.now e is)

pub round-requires : goal.round-requires
round-requires c = let so = c.rounds.invariant c.requires.0 c.requires.1.0 in (so.0, (so.1, tt))

pub rounds-preserved : goal.rounds-preserved
rounds-preserved c = λ e is.
    another c.rounds.self c.round.new.self c.rounds.answers.items c.round.new.answers.items e c.finish_ends.ensures.on
    (c.rounds.invariant e is) c.in_ok-round.ensures

pub rounds-smaller : goal.rounds-smaller
rounds-smaller c =
    let so = c.rounds.invariant c.requires.0 c.requires.1.0 in
    fewer_moves c.rounds.self c.round.new.self so.0 so.1 (c.in_ok-round.ensures so.0 so.1).1 (c.finish_ends.ensures.moves so.0 so.1.sound)
    (subst (λ n. 0 < n) c.count.ensures c.rounds-test.true)

pub returns-clause-finished : goal.returns-clause-finished
returns-clause-finished c = λ e is.
    let empty : count_of c.rounds.self.queries ≡ 0 = let counted = c.count.ensures in let none = c.rounds-test.false in omega (arith, counted, none) in
    all_came c.rounds.self c.rounds.answers.items e c.finish_ends.ensures.none empty (c.rounds.invariant e is)
