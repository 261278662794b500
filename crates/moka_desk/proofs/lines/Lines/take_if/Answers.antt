use Rattle.std.proofs.Common.{◌==◌, ◌&&◌, [], cond, sym, ap, ◌∙◌}
use Rattle.moka_desk.specs.Lines.{line_at}
use Rattle.moka_desk.specs.Woken.{and_calls, is_out}
use Rattle.moka_desk.proofs.lines.Lines.take_if.Goals as goal

pub returns-in-true-clause-all : goal.returns-in-true-clause-all
returns-in-true-clause-all c = c.take.ensures.all ∙ ap (λ b. cond b (line_at c.args.self.now.lists c.args.number) []) (sym c.in-true.is)

pub returns-in-true-clause-none : goal.returns-in-true-clause-none
returns-in-true-clause-none c = λ n. c.take.ensures.none n ∙ ap (λ b. cond (b && c.args.number == n) [] (line_at c.args.self.now.lists n)) (sym c.in-true.is)

pub returns-in-true-clause-woken : goal.returns-in-true-clause-woken
returns-in-true-clause-woken c = λ k.
    c.take.ensures.woken k ∙ ap (λ b. and_calls (cond b (line_at c.args.self.now.lists c.args.number) []) (is_out c.args.self.now) k) (sym c.in-true.is)

pub returns-in-false-clause-all : goal.returns-in-false-clause-all
returns-in-false-clause-all c = ap (λ b. cond b (line_at c.args.self.now.lists c.args.number) []) (sym c.in-false.is)

pub returns-in-false-clause-none : goal.returns-in-false-clause-none
returns-in-false-clause-none c = λ n. ap (λ b. cond (b && c.args.number == n) [] (line_at c.args.self.now.lists n)) (sym c.in-false.is)

pub returns-in-false-clause-woken : goal.returns-in-false-clause-woken
returns-in-false-clause-woken c = λ k.
    ap (λ b. and_calls (cond b (line_at c.args.self.now.lists c.args.number) []) (is_out c.args.self.now) k) (sym c.in-false.is)
