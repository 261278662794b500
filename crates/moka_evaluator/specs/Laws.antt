-- What a user of an evaluator is promised.
use Rattle.std.specs.Prelude.{◌≡◌, ◌≢◌, ◌≤◌, ℕ, ◌==◌, Bool, true, ◌&&◌, List, [], ◌∷◌, filter, length, Some, None}
use Rattle.std.specs.List.{list_any}
use Rattle.moka_evaluator.specs.Evaluator.{Evaluator, Stack}
use Rattle.moka_evaluator.specs.Plain.{plain}
use Rattle.moka_evaluator.specs.Sound.{IsSound}
use Rattle.moka_evaluator.specs.Steps.{asked, dropped, turned}
use Rattle.moka_evaluator.specs.declared.frames.Frame.{Frame}
use Rattle.moka_evaluator.specs.declared.turns.Turned.TheVariants as turn

-- the rule of the lowest frame, where the top one is of this rule
abbrev pub lowest : ℕ → List Frame → ℕ
lowest r [] = r
lowest r (f ∷ fs) = lowest f.rule fs

-- the rule that a query with this stack was asked for
abbrev pub asked_for : Stack → ℕ
asked_for s = lowest s.top.rule s.below

-- what a query answers is the plain value of the rule that it was asked for
abbrev pub AnswersArePlain : Type 0
AnswersArePlain =
    (e : Evaluator) (q : ℕ) (s : Stack) (v : ℕ) → IsSound e → e.stack q ≡ Some s →
    (turned e q).0 ≡ turn.Value v → v ≡ plain e.rules (asked_for s)

-- a query is asked for the same rule until it answers
abbrev pub RuleStays : Type 0
RuleStays =
    (e : Evaluator) (q : ℕ) (s t : Stack) → IsSound e → e.stack q ≡ Some s →
    (turned e q).1.stack q ≡ Some t → asked_for t ≡ asked_for s

-- a turn of a query leaves the others as they are
abbrev pub OthersStay : Type 0
OthersStay =
    (e : Evaluator) (p q : ℕ) → q ≢ p → (turned e q).1.stack p ≡ e.stack p

-- a known value stays, whatever is called, and nobody owns the rule anew
pub record StaysKnown (e : Evaluator) (r v : ℕ) : Type 0 where
  pub known : e.known r ≡ Some v
  pub closed : e.owner r ≡ None

abbrev pub KnownStays : Type 0
KnownStays =
    (e : Evaluator) (r v x : ℕ) → IsSound e → e.known r ≡ Some v →
    StaysKnown (asked e x).1 r v × StaysKnown (turned e x).1 r v × StaysKnown (dropped e x).1 r v

-- some frame of the stack owns the rule
abbrev pub evaluates : Stack → ℕ → Bool
evaluates s r = list_any (λ f. f.owns && f.rule == r) (s.top ∷ s.below)

-- at most one live query evaluates a rule
abbrev pub OneEvaluates : Type 0
OneEvaluates =
    (e : Evaluator) (p q r : ℕ) (s t : Stack) → IsSound e → e.stack p ≡ Some s → e.stack q ≡ Some t →
    evaluates s r ≡ true → evaluates t r ≡ true → p ≡ q

-- in one frame
abbrev pub InOneFrame : Type 0
InOneFrame =
    (e : Evaluator) (q r : ℕ) (s : Stack) → IsSound e → e.stack q ≡ Some s →
    length (filter (λ f. f.rule == r) (s.top ∷ s.below)) ≤ 1

-- ---- what each call keeps

-- Each rule is evaluated once.
pub record EvaluatesOnce (e : Evaluator) : Type 0 where
  -- at most one live query evaluates a rule
  pub query : (p q r : ℕ) (s t : Stack) → e.stack p ≡ Some s → e.stack q ≡ Some t →
      evaluates s r ≡ true → evaluates t r ≡ true → p ≡ q
  -- in one frame
  pub frame : (q r : ℕ) (s : Stack) → e.stack q ≡ Some s →
      length (filter (λ f. f.rule == r) (s.top ∷ s.below)) ≤ 1
  -- nobody evaluates a rule that is known
  pub unknown : (q r : ℕ) (s : Stack) → e.stack q ≡ Some s → evaluates s r ≡ true → e.known r ≡ None

-- What a call keeps, from the evaluator before it to the one after it.
pub record Keeps (before after : Evaluator) : Type 0 where
  pub rules : after.rules ≡ before.rules
  -- a known value stays, and nobody owns its rule anew
  pub known : (r v : ℕ) → before.known r ≡ Some v → StaysKnown after r v
  -- a query that was live, and is, is asked for the same rule
  pub same_rule : (q : ℕ) (s t : Stack) → before.stack q ≡ Some s → after.stack q ≡ Some t →
      asked_for t ≡ asked_for s
  pub once : EvaluatesOnce after

-- the query is live, and was asked for the rule
abbrev pub IsAskedFor : Evaluator → ℕ → ℕ → Type 0
IsAskedFor e q r = (s : Stack) × (e.stack q ≡ Some s) × (asked_for s ≡ r)
