use Rattle.std.proofs.Common.{◌==◌, ◌&&◌, ◌||◌, ◌++◌, [], not, cond, ap, ◌∙◌}
use Rattle.moka_sync.specs.Waiting.{waits, without}
use Rattle.moka_desk.specs.Lines.{line_at}
use Rattle.moka_desk.specs.Woken.{is_out}
use Rattle.moka_desk.proofs.Woken.{left_if, left_taken, left_taken_if}
use Rattle.moka_desk.proofs.waits.Waits.leave.Goals as goal

pub returns-clause-woken : goal.returns-clause-woken
returns-clause-woken c =
    let call = c.args.call in
    c.hand_both.ensures ∙ (λ i. (c.take-load.ensures.all ∙ c.leave-2.ensures.off call) i
    ++ (c.take_if-lock.ensures.all ∙ ap (λ xs. cond (not c.args.runs) xs []) (c.leave-3.ensures.off call)
    ∙ left_if call (line_at c.args.self.now.locks.lists call) c.args.runs) i)

pub returns-clause-settlements_woken : goal.returns-clause-settlements_woken
returns-clause-settlements_woken c = λ k.
    let lines = c.args.self.now.settlements in
    let call = c.args.call in
    c.take-load.ensures.woken k
    ∙ ap (λ xs. waits k xs || is_out c.leave-2.new.self k) (c.leave-2.ensures.off call)
    ∙ ap (λ b. waits k (without call (line_at lines.lists call)) || b) (c.leave-2.ensures.back k)
    ∙ left_taken call k (line_at lines.lists call) (is_out lines k)

pub returns-clause-locks_woken : goal.returns-clause-locks_woken
returns-clause-locks_woken c = λ k.
    let lines = c.args.self.now.locks in
    let call = c.args.call in
    c.take_if-lock.ensures.woken k
    ∙ ap (λ xs. waits k (cond (not c.args.runs) xs []) || is_out c.leave-3.new.self k) (c.leave-3.ensures.off call)
    ∙ ap (λ b. waits k (cond (not c.args.runs) (without call (line_at lines.lists call)) []) || b) (c.leave-3.ensures.back k)
    ∙ left_taken_if call k (line_at lines.lists call) (is_out lines k) c.args.runs

pub returns-clause-locks : goal.returns-clause-locks
returns-clause-locks c = λ n. c.take_if-lock.ensures.none n ∙ ap (λ xs. cond (not c.args.runs && c.args.call == n) [] xs) (c.leave-3.ensures.off n)
