-- What the lines of a source reply, by the reference evaluator.
use Rattle.std.specs.Prelude.{◌≡◌, ℕ, List, [], ◌∷◌, ◌++◌}
use Rattle.moka_evaluator.specs.Evaluator.{Evaluator, fresh, known_in}
use Rattle.moka_evaluator.specs.Finishing.{finished}
use Rattle.moka_evaluator.specs.Steps.{asked, dropped, turned}
use Rattle.moka_evaluator.specs.declared.rules.Rule.{Rule}
use Rattle.moka_lines.specs.Programs.{IsAnswer}
use Rattle.moka_memo.specs.Memo.{IsMemo}
use Rattle.moka_memo.specs.declared.memo.Memo.{Memo}
use Rattle.moka_memo_run.specs.Lines.{Fits, line_words}
use Rattle.moka_memo_run.specs.Replies.{asked_line, dropped_line, finished_text, known_line, turned_line}
use Rattle.moka_memo_run.specs.declared.lines.Line.{Line}
use Rattle.moka_memo_run.specs.declared.lines.Line.TheVariants as line

-- the rules among lines, in their order
abbrev pub rules_in : List Line → List Rule
rules_in [] = []
rules_in (line.Rule rule ∷ lines) = rule ∷ rules_in lines
rules_in (line.Ask rule ∷ lines) = rules_in lines
rules_in (line.Turn query ∷ lines) = rules_in lines
rules_in (line.Drop query ∷ lines) = rules_in lines
rules_in (line.Finish ∷ lines) = rules_in lines

-- what the evaluator replies to a line, and the evaluator afterwards
abbrev pub replied : Evaluator → Line → List ℕ × Evaluator
replied e (line.Rule rule) = ([], e)
replied e (line.Ask rule) = (asked_line (asked e rule).0, (asked e rule).1)
replied e (line.Turn query) = (turned_line (turned e query).0, (turned e query).1)
replied e (line.Drop query) = (dropped_line (dropped e query).0, (dropped e query).1)
replied e line.Finish = (finished_text (finished e).0, (finished e).1)

-- the text grew by the reply, and the memo stands for the evaluator afterwards
abbrev pub Replies : Memo → List ℕ → List ℕ → List ℕ × Evaluator → Type 0
Replies memo before after came = (after ≡ before ++ came.0) × IsMemo memo came.1

-- and to lines, one after the other
abbrev pub replied_all : Evaluator → List Line → List ℕ × Evaluator
replied_all e [] = ([], e)
replied_all e (l ∷ lines) =
    let first : List ℕ × Evaluator = replied e l in
    let others : List ℕ × Evaluator = replied_all first.1 lines in
    (first.0 ++ others.0, others.1)

-- the text that answers the lines: the replies, and how many rules are known in the end
abbrev pub memo_text : List Line → List ℕ
memo_text lines =
    let all : List ℕ × Evaluator = replied_all (fresh (rules_in lines)) lines in
    all.0 ++ known_line (known_in all.1)

-- the lines are answered by this text; nothing else is handed to the program
abbrev pub AreAnsweredBy : Unit {0} → List Line → List ℕ → Unit {0} → Type 0
AreAnsweredBy old lines text new = text ≡ memo_text lines

-- the text answers the lines that the bytes say
abbrev pub IsMemoText : List ℕ → List ℕ → Type 0
IsMemoText = IsAnswer line_words Fits AreAnsweredBy tt tt
