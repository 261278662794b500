-- What `finish` does to the reference evaluator: rounds of turns, until no query is live.
use Rattle.std.specs.Prelude.{◌≡◌, ℕ, zero, suc, ◌+◌, cond, List, [], ◌∷◌, ◌++◌, Option, Some, None}
use Rattle.std.specs.List.{AllByRecursion}
use Rattle.moka_evaluator.specs.Evaluator.{Evaluator, Stack, live}
use Rattle.moka_evaluator.specs.Laws.{asked_for}
use Rattle.moka_evaluator.specs.Plain.{plain}
use Rattle.moka_evaluator.specs.Sound.{IsSound}
use Rattle.moka_evaluator.specs.Steps.{turned}
use Rattle.moka_evaluator.specs.declared.answers.Answer.{Answer}
use Rattle.moka_evaluator.specs.declared.frames.Frame.{Frame}
use Rattle.moka_evaluator.specs.declared.frames.Operands.{Operands}
use Rattle.moka_evaluator.specs.declared.frames.Operands.TheVariants.{Nothing, First, Both}
use Rattle.moka_evaluator.specs.declared.turns.Turned.{Turned}
use Rattle.moka_evaluator.specs.declared.turns.Turned.TheVariants as turn

-- the query's answer, where its turn came to one
abbrev pub answer_in : ℕ → Turned → List Answer
answer_in q turn.Moved = []
answer_in q (turn.Waits rule) = []
answer_in q (turn.Value value) = record { query = q; value = value } ∷ []
answer_in q turn.NoQuery = []

-- these queries take a turn each, in this order: the answers, and the evaluator afterwards
abbrev pub take_turns : Evaluator → List ℕ → List Answer × Evaluator
take_turns e [] = ([], e)
take_turns e (q ∷ queries) =
    let first : Turned × Evaluator = turned e q in
    let others : List Answer × Evaluator = take_turns first.1 queries in
    (answer_in q first.0 ++ others.0, others.1)

-- a round: each live query takes a turn, in order of number
abbrev pub round : Evaluator → List Answer × Evaluator
round e = take_turns e (live e)

-- so many rounds, one after the other
abbrev pub rounds : ℕ → Evaluator → List Answer × Evaluator
rounds zero e = ([], e)
rounds (suc n) e =
    let first : List Answer × Evaluator = round e in
    let others : List Answer × Evaluator = rounds n first.1 in
    (first.0 ++ others.0, others.1)

-- ---- how many rounds are enough

-- no more moves than these get an operand for the rule of this number: a frame is put on, owns its
-- rule, gets two operands for that, and comes off
abbrev pub to_operand : ℕ → ℕ
to_operand zero = 0
to_operand (suc r) = 3 + (to_operand r + to_operand r)

-- and no more than these take off a frame that seeks the rule
abbrev pub to_find : ℕ → ℕ
to_find r = 2 + (to_operand r + to_operand r)

-- one that owns it and is on top, with these operands so far
abbrev pub to_work : ℕ → Operands → ℕ
to_work r Nothing = 1 + (to_operand r + to_operand r)
to_work r (First x) = 1 + to_operand r
to_work r (Both x y) = 1

-- one below, which gets the next operand from the frames above
abbrev pub to_go_on : ℕ → Operands → ℕ
to_go_on r Nothing = 1 + to_operand r
to_go_on r (First x) = 1
to_go_on r (Both x y) = 1

abbrev pub top_moves : Frame → ℕ
top_moves f = cond f.owns (to_work f.rule f.operands) (to_find f.rule)

abbrev pub below_moves : List Frame → ℕ
below_moves [] = 0
below_moves (f ∷ fs) = to_go_on f.rule f.operands + below_moves fs

abbrev pub stack_moves : Option Stack → ℕ
stack_moves None = 0
stack_moves (Some s) = top_moves s.top + below_moves s.below

-- of the queries up to the last
abbrev pub moves_to : ℕ → (ℕ → Option Stack) → ℕ
moves_to zero stack = 0
moves_to (suc n) stack = moves_to n stack + stack_moves (stack (suc n))

-- no more moves than these are left, whatever turns are taken, if no query is asked or dropped
abbrev pub moves_left : Evaluator → ℕ
moves_left e = moves_to e.last e.stack

-- ---- finishing

-- all live queries take turns, round after round, until none is live: the answers in their order, and
-- the evaluator afterwards. Each round moves some query, so that as many rounds as moves are left are
-- enough; where no query is live, a further round changes nothing.
abbrev pub finished : Evaluator → List Answer × Evaluator
finished e = rounds (moves_left e) e

-- a round, and then the rest
abbrev pub after_round : Evaluator → List Answer × Evaluator
after_round e =
    let first : List Answer × Evaluator = round e in
    let others : List Answer × Evaluator = finished first.1 in
    (first.0 ++ others.0, others.1)

-- ---- what it answers

-- the answer is the plain value of the rule that its query was asked for
abbrev pub IsPlainAnswer : Evaluator → Answer → Type 0
IsPlainAnswer e a =
    (s : Stack) × (e.stack a.query ≡ Some s) × (a.value ≡ plain e.rules (asked_for s))

-- each answer of a finish is
abbrev pub FinishedArePlain : Type 0
FinishedArePlain = (e : Evaluator) → IsSound e → AllByRecursion (IsPlainAnswer e) (finished e).0
