-- The text of replies.
use Rattle.std.specs.Prelude.{ℕ, Bool, true, false, List, ◌∷◌, ◌++◌, Option, Some, None, flat_map, codes, decimal}
use Rattle.moka_evaluator.specs.declared.answers.Answer.{Answer}
use Rattle.moka_evaluator.specs.declared.turns.Turned.{Turned}
use Rattle.moka_evaluator.specs.declared.turns.Turned.TheVariants as turn
use Rattle.moka_lines.specs.Texts.{ended}

-- what an ask is told
abbrev pub asked_line : Option ℕ → List ℕ
asked_line (Some query) = ended (codes "query " ++ decimal query)
asked_line None = ended (codes "refused")

-- what a turn is told
abbrev pub turned_line : Turned → List ℕ
turned_line turn.Moved = ended (codes "moved")
turned_line (turn.Waits rule) = ended (codes "wait " ++ decimal rule)
turned_line (turn.Value value) = ended (codes "value " ++ decimal value)
turned_line turn.NoQuery = ended (codes "refused")

-- what a drop is told
abbrev pub dropped_line : Bool → List ℕ
dropped_line true = ended (codes "dropped")
dropped_line false = ended (codes "refused")

-- a query and its answer
abbrev pub answer_line : Answer → List ℕ
answer_line answer = ended (codes "answer " ++ (decimal answer.query ++ 32 ∷ decimal answer.value))

-- what a finish is told: the answers in their order
abbrev pub finished_text : List Answer → List ℕ
finished_text answers = flat_map answer_line answers ++ ended (codes "finished")

-- how many rules are known in the end
abbrev pub known_line : ℕ → List ℕ
known_line count = ended (codes "known " ++ decimal count)
