-- What holds of every evaluator that calls lead to.
use Rattle.std.specs.Prelude.{◌≡◌, ◌<◌, ℕ, ◌==◌, Bool, true, false, List, [], ◌∷◌, Option, Some, None, IfSome}
use Rattle.std.specs.List.{list_any}
use Rattle.moka_evaluator.specs.Evaluator.{Evaluator, Stack, is_in, is_owner}
use Rattle.moka_evaluator.specs.Plain.{IsAcyclic, next_operand, plain, rule_at}
use Rattle.moka_evaluator.specs.Steps.{needs}
use Rattle.moka_evaluator.specs.declared.frames.Frame.{Frame}
use Rattle.moka_evaluator.specs.declared.frames.Operands.{Operands}
use Rattle.moka_evaluator.specs.declared.frames.Operands.TheVariants.{Nothing, First, Both}
use Rattle.moka_evaluator.specs.declared.rules.Rule.{Rule}

-- what was handed down are the values of the rule's operands, in the order in which they are needed
abbrev pub AreWorth : (ℕ → ℕ) → Rule → Operands → Type 0
AreWorth worth rule Nothing = Unit {0}
AreWorth worth rule (First x) = IfSome (next_operand rule Nothing) (λ a. x ≡ worth a)
AreWorth worth rule (Both x y) =
    IfSome (next_operand rule Nothing) (λ a. x ≡ worth a)
    × IfSome (next_operand rule (First x)) (λ b. y ≡ worth b)

-- A frame of the query: its rule is one of the rules, what was handed down are plain values, and
-- where it owns its rule, the query does.
pub record IsFrame (rules : List Rule) (owner : ℕ → Option ℕ) (q : ℕ) (f : Frame) : Type 0 where
  pub rule : Rule
  pub is : rule_at rules f.rule ≡ Some rule
  pub owned : f.owns ≡ true → owner f.rule ≡ Some q
  pub worth : AreWorth (plain rules) rule f.operands

-- a frame below one that seeks or owns the rule r: it owns its rule, and needs r next
pub record LiesBelow (rules : List Rule) (owner : ℕ → Option ℕ) (q r : ℕ) (f : Frame) : Type 0 where
  pub frame : IsFrame rules owner q f
  pub owns : f.owns ≡ true
  pub needs : needs rules f ≡ Some r

-- each frame lies below the one before it
abbrev pub LieBelow : List Rule → (ℕ → Option ℕ) → ℕ → ℕ → List Frame → Type 0
LieBelow rules owner q r [] = Unit {0}
LieBelow rules owner q r (f ∷ fs) = LiesBelow rules owner q r f × LieBelow rules owner q f.rule fs

pub record IsStack (rules : List Rule) (owner : ℕ → Option ℕ) (q : ℕ) (s : Stack) : Type 0 where
  pub top : IsFrame rules owner q s.top
  pub below : LieBelow rules owner q s.top.rule s.below

-- a frame of the stack is for the rule
abbrev pub has_frame : Stack → ℕ → Bool
has_frame s r = list_any (λ f. f.rule == r) (s.top ∷ s.below)

-- the query is live and owns the rule: the rule has a frame in its stack
pub record Owns (e : Evaluator) (q r : ℕ) : Type 0 where
  pub stack : Stack
  pub is : e.stack q ≡ Some stack
  pub frame : has_frame stack r ≡ true

-- the query is live, and its top frame seeks the rule, which another one owns
pub record WaitsFor (e : Evaluator) (q r : ℕ) : Type 0 where
  pub stack : Stack
  pub is : e.stack q ≡ Some stack
  pub rule : stack.top.rule ≡ r
  pub seeks : stack.top.owns ≡ false
  pub other : is_owner e q r ≡ false

-- none is in the line twice
abbrev pub IsOnce : List ℕ → Type 0
IsOnce [] = Unit {0}
IsOnce (q ∷ qs) = (is_in q qs ≡ false) × IsOnce qs

pub record IsSound (e : Evaluator) : Type 0 where
  pub acyclic : IsAcyclic e.rules
  -- what is known are the plain values
  pub plain : (r v : ℕ) → e.known r ≡ Some v → v ≡ plain e.rules r
  -- nobody owns a rule that is known
  pub closed : (r v : ℕ) → e.known r ≡ Some v → e.owner r ≡ None
  -- nobody waits for a rule that nobody owns
  pub free : (r : ℕ) → e.owner r ≡ None → e.line r ≡ []
  pub stacks : (q : ℕ) (s : Stack) → e.stack q ≡ Some s → IsStack e.rules e.owner q s
  pub owners : (r q : ℕ) → e.owner r ≡ Some q → Owns e q r
  pub waits : (r q : ℕ) → is_in q (e.line r) ≡ true → WaitsFor e q r
  pub once : (r : ℕ) → IsOnce (e.line r)
  -- live queries have numbers that were given out, from 1
  pub first : e.stack 0 ≡ None
  pub numbered : (q : ℕ) → e.last < q → e.stack q ≡ None
