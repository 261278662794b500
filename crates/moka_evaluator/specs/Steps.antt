-- What each call does to the reference evaluator, and what it answers.
use Rattle.std.specs.Prelude.{ℕ, ◌+◌, ◌==◌, nat_lt, Bool, true, false, cond, ◌&&◌, List, [], ◌∷◌, ◌++◌, length, drop, Option, Some, None, is_some, slice_get}
use Rattle.std.specs.Option.{option_map_or, option_and_then}
use Rattle.moka_hist.specs.Finite.{put_at}
use Rattle.moka_evaluator.specs.Evaluator.{Evaluator, Stack, is_in, is_owner, live, without}
use Rattle.moka_evaluator.specs.Plain.{next_operand, rule_at, value_from, with_value}
use Rattle.moka_evaluator.specs.declared.frames.Frame.{Frame}
use Rattle.moka_evaluator.specs.declared.frames.Operands.TheVariants.{Nothing}
use Rattle.moka_evaluator.specs.declared.rules.Rule.{Rule}
use Rattle.moka_evaluator.specs.declared.turns.Turned.{Turned}
use Rattle.moka_evaluator.specs.declared.turns.Turned.TheVariants as turn

-- at most so many queries are live
abbrev pub most_live : ℕ
most_live = 100

-- ---- asking

-- a frame that seeks the rule
abbrev pub seeking : ℕ → Frame
seeking r = record { rule = r; owns = false; operands = Nothing }

-- a query that seeks the rule, and nothing else
abbrev pub just : ℕ → Stack
just r = record { top = seeking r; below = [] }

-- the next number, where there is such a rule and room for a query: it has one frame, which seeks
abbrev pub asked : Evaluator → ℕ → Option ℕ × Evaluator
asked e r =
    cond (is_some (rule_at e.rules r) && nat_lt (length (live e)) most_live) (
      Some (e.last + 1),
      record e { stack = put_at e.stack (e.last + 1) (Some (just r)); last = e.last + 1 },
    )
    (None, e)

-- ---- turns

-- the query's stack becomes this one, or it is no longer live
abbrev pub with_stack : Evaluator → ℕ → Option Stack → Evaluator
with_stack e q stack = record e { stack = put_at e.stack q stack }

-- what a frame of this value replies that comes off, and the stack that is left on these frames: the
-- value is the query's answer, or goes to the frame below
abbrev pub off : List Frame → ℕ → Turned × Option Stack
off [] value = (turn.Value value, None)
off (f ∷ below) value = (
  turn.Moved,
  Some (record { top = record f { operands = with_value f.operands value }; below = below }),
)

-- the top frame comes off
abbrev pub comes_off : Evaluator → ℕ → ℕ → List Frame → Turned × Evaluator
comes_off e q value below = ((off below value).0, with_stack e q (off below value).1)

-- the query owns the rule that its top frame seeks
abbrev pub owns_top : Evaluator → ℕ → Stack → Turned × Evaluator
owns_top e q s = (
  turn.Moved,
  record (with_stack e q (Some (record s { top = record s.top { owns = true } }))) {
    owner = put_at e.owner s.top.rule (Some q);
  },
)

-- the query is in the line, at its end if it wasn't
abbrev pub joined : List ℕ → ℕ → List ℕ
joined line q = cond (is_in q line) line (line ++ q ∷ [])

-- it waits for the rule that its top frame seeks
abbrev pub waits : Evaluator → ℕ → ℕ → Turned × Evaluator
waits e q r = (turn.Waits r, record e { line = put_at e.line r (joined (e.line r) q) })

-- the top frame seeks an unknown rule, which this query owns, if any
abbrev pub seeks_unknown : Evaluator → ℕ → Stack → Option ℕ → Turned × Evaluator
seeks_unknown e q s None = owns_top e q s
seeks_unknown e q s (Some owner) = cond (owner == q) (owns_top e q s) (waits e q s.top.rule)

-- the top frame seeks a rule that has this value, if it is known
abbrev pub seeks : Evaluator → ℕ → Stack → Option ℕ → Turned × Evaluator
seeks e q s None = seeks_unknown e q s (e.owner s.top.rule)
seeks e q s (Some value) = comes_off e q value s.below

-- the rule has this value from now on: no query owns it, and none waits for it
abbrev pub with_known : Evaluator → ℕ → ℕ → Evaluator
with_known e r value =
    record e {
      known = put_at e.known r (Some value);
      owner = put_at e.owner r None;
      line = put_at e.line r [];
    }

-- the value of the rule, by the operands that were handed down
abbrev pub worked_out : List Rule → Frame → ℕ
worked_out rules f = option_map_or (λ rule. value_from rule f.operands) (rule_at rules f.rule) 0

-- the top frame owns its rule, and needs this operand, if any
abbrev pub works : Evaluator → ℕ → Stack → Option ℕ → Turned × Evaluator
works e q s None =
    let value = worked_out e.rules s.top in
    comes_off (with_known e s.top.rule value) q value s.below
works e q s (Some a) =
    (turn.Moved, with_stack e q (Some (record { top = seeking a; below = s.top ∷ s.below })))

-- the operand that the frame needs next
abbrev pub needs : List Rule → Frame → Option ℕ
needs rules f = option_and_then (λ rule. next_operand rule f.operands) (rule_at rules f.rule)

abbrev pub turned_at : Evaluator → ℕ → Option Stack → Turned × Evaluator
turned_at e q None = (turn.NoQuery, e)
turned_at e q (Some s) =
    cond s.top.owns (works e q s (needs e.rules s.top)) (seeks e q s (e.known s.top.rule))

-- a turn of the query works on its top frame
abbrev pub turned : Evaluator → ℕ → Turned × Evaluator
turned e q = turned_at e q (e.stack q)

-- ---- dropping

-- each rule that the query owns is passed to the first of the line, or is free where that is empty
abbrev pub passed : Evaluator → ℕ → ℕ → Option ℕ
passed e q r = cond (is_owner e q r) (slice_get (e.line r) 0) (e.owner r)

-- the first of such a line leaves it, and the query leaves the line that it is in
abbrev pub line_after : Evaluator → ℕ → ℕ → List ℕ
line_after e q r = cond (is_owner e q r) (drop 1 (e.line r)) (without q (e.line r))

-- the evaluator without the query's stack, with these owners and lines
abbrev pub let_go : Evaluator → ℕ → (ℕ → Option ℕ) → (ℕ → List ℕ) → Evaluator
let_go e q owner line = record (with_stack e q None) { owner = owner; line = line }

-- a live query is dropped
abbrev pub dropped : Evaluator → ℕ → Bool × Evaluator
dropped e q =
    cond (is_some (e.stack q))
    (true, let_go e q (passed e q) (line_after e q))
    (false, e)
