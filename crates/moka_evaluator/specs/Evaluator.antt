-- The reference evaluator: what is known of the rules, who evaluates them, who waits, and how far
-- each query is.
use Rattle.std.specs.Prelude.{ℕ, zero, suc, ◌==◌, not, Bool, false, cond, List, [], ◌∷◌, ◌++◌, filter, length, Option, None, is_some}
use Rattle.std.specs.List.{list_any}
use Rattle.std.specs.Option.{option_map_or}
use Rattle.moka_evaluator.specs.declared.frames.Frame.{Frame}
use Rattle.moka_evaluator.specs.declared.rules.Rule.{Rule}

-- the stack of a live query: its top frame, and those below, the nearest first
pub record Stack : Type 0 where
  pub top : Frame
  pub below : List Frame

pub record Evaluator : Type 0 where
  pub rules : List Rule
  -- the value of each rule that is known
  pub known : ℕ → Option ℕ
  -- the query that evaluates a rule
  pub owner : ℕ → Option ℕ
  -- the queries that wait for a rule, in the order in which they came
  pub line : ℕ → List ℕ
  -- the stack of each live query
  pub stack : ℕ → Option Stack
  -- the last number given to a query
  pub last : ℕ

-- nothing is known, and no query was asked
abbrev pub fresh : List Rule → Evaluator
fresh rules =
    record {
      rules = rules;
      known = λ _. None;
      owner = λ _. None;
      line = λ _. [];
      stack = λ _. None;
      last = 0;
    }

-- the numbers up to the last that pass the test, in order
abbrev pub numbers_to : ℕ → (ℕ → Bool) → List ℕ
numbers_to zero test = []
numbers_to (suc n) test = numbers_to n test ++ cond (test (suc n)) (suc n ∷ []) []

-- the live queries, in order of number
abbrev pub live : Evaluator → List ℕ
live e = numbers_to e.last (λ q. is_some (e.stack q))

-- the query owns the rule
abbrev pub is_owner : Evaluator → ℕ → ℕ → Bool
is_owner e q r = option_map_or (λ o. o == q) (e.owner r) false

-- the query is in the list
abbrev pub is_in : ℕ → List ℕ → Bool
is_in q queries = list_any (λ p. p == q) queries

-- the list without the query
abbrev pub without : ℕ → List ℕ → List ℕ
without q queries = filter (λ p. not (p == q)) queries

-- how many rules have a known value
abbrev pub known_in : Evaluator → ℕ
known_in e = length (numbers_to (length e.rules) (λ r. is_some (e.known r)))
