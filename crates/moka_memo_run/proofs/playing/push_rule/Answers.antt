-- A line that is no rule has none.
use Rattle.std.proofs.Common.{◌≡◌, ◌++◌, ◌∷◌, [], sym, subst, append-nil}
use Rattle.moka_memo_run.specs.Playing.{rules_in}
use Rattle.moka_memo_run.proofs.playing.push_rule.Goals as goal

pub returns-in-Ask : goal.returns-in-Ask
returns-in-Ask c =
    subst (λ l. c.args.rules.now.items ≡ c.args.rules.now.items ++ rules_in (l ∷ [])) (sym c.in-Ask.is)
    (sym (append-nil c.args.rules.now.items))

pub returns-in-Turn : goal.returns-in-Turn
returns-in-Turn c =
    subst (λ l. c.args.rules.now.items ≡ c.args.rules.now.items ++ rules_in (l ∷ [])) (sym c.in-Turn.is)
    (sym (append-nil c.args.rules.now.items))

pub returns-in-Drop : goal.returns-in-Drop
returns-in-Drop c =
    subst (λ l. c.args.rules.now.items ≡ c.args.rules.now.items ++ rules_in (l ∷ [])) (sym c.in-Drop.is)
    (sym (append-nil c.args.rules.now.items))

pub returns-in-Finish : goal.returns-in-Finish
returns-in-Finish c =
    subst (λ l. c.args.rules.now.items ≡ c.args.rules.now.items ++ rules_in (l ∷ [])) (sym c.in-Finish.is)
    (sym (append-nil c.args.rules.now.items))
