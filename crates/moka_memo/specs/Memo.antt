-- Which reference evaluator a memo stands for.
use Rattle.std.specs.Prelude.{◌≡◌, ℕ, Bool, true, false, length, Some}
use Rattle.std.specs.List.{AllByRecursion}
use Rattle.moka_claims.specs.Claims.{AsksOnce, IsClaims}
use Rattle.moka_evaluator.specs.Claimed.{AreClaims, Claimed}
use Rattle.moka_evaluator.specs.Evaluator.{Evaluator, Stack, is_owner, known_in, live}
use Rattle.moka_evaluator.specs.Finishing.{IsPlainAnswer, answer_in}
use Rattle.moka_evaluator.specs.Sound.{IsSound}
use Rattle.moka_evaluator.specs.Steps.{needs}
use Rattle.moka_evaluator.specs.declared.turns.Turned.{Turned}
use Rattle.moka_evaluator.specs.declared.frames.Frame.{Frame}
use Rattle.moka_stacks.specs.Places.{line_at, owner_at}
use Rattle.moka_stacks.specs.Queries.{count_of, stack_at}
use Rattle.moka_memo.specs.declared.memo.Memo.{Memo}

-- The memo stands for the evaluator: memory was never wanting.
pub record IsMemo (memo : Memo) (e : Evaluator) : Type 0 where
  pub unspent : memo.spent ≡ false
  pub sound : IsSound e
  pub rules : memo.rules.items ≡ e.rules
  pub owner : (r : ℕ) → owner_at memo.places r ≡ e.owner r
  pub line : (r : ℕ) → line_at memo.places r ≡ e.line r
  pub stack : (q : ℕ) → stack_at memo.queries q ≡ e.stack q
  pub last : memo.last ≡ e.last
  pub live : count_of memo.queries ≡ length (live e)
  pub known : memo.known ≡ known_in e
  pub claimed : Claimed
  pub claims : IsClaims memo.claims claimed
  pub are : AreClaims e claimed

-- memory was wanting: the memo answers that from then on
abbrev pub IsSpent : Memo → Type 0
IsSpent memo = memo.spent ≡ true

-- it stands for an evaluator of which P holds
abbrev pub IsStanding : Memo → (Evaluator → Type 0) → Type 0
IsStanding memo P = (e : Evaluator) × (IsMemo memo e × P e)

-- whatever holds of an evaluator
abbrev pub AnyEvaluator : Evaluator → Type 0
AnyEvaluator e = Unit {0}

-- unless it is spent it stands for some evaluator
abbrev pub IsUsable : Memo → Type 0
IsUsable memo = memo.spent ≡ false → IsStanding memo AnyEvaluator

-- ---- what the calls promise

-- where the turn of the query came to a value, that is the plain one of the rule that it was asked for
abbrev pub IsPlainTurn : Evaluator → ℕ → Turned → Type 0
IsPlainTurn e q turn = AllByRecursion (IsPlainAnswer e) (answer_in q turn)

-- in the cache at most one initializer of each rule is open
abbrev pub LoadsOnce : Memo → Type 0
LoadsOnce memo = (e : Evaluator) (is : IsMemo memo e) → AsksOnce is.claims.small

-- ---- for the proofs

-- the turn replied so, and the memo stands for what it left
abbrev pub Turns : Memo → Turned → Turned × Evaluator → Type 0
Turns memo reply came = (reply ≡ came.0) × IsMemo memo came.1

-- the query is live, with this top frame
abbrev pub HasTop : ℕ → Frame → Evaluator → Type 0
HasTop q top e = (s : Stack) × ((e.stack q ≡ Some s) × (s.top ≡ top))

-- its top frame owns its rule, and needs the operand
abbrev pub Needs : ℕ → ℕ → Evaluator → Type 0
Needs q x e =
    (s : Stack) × ((e.stack q ≡ Some s) × ((s.top.owns ≡ true) × (needs e.rules s.top ≡ Some x)))

-- its top frame seeks the rule, by a call of its own
abbrev pub SeeksItself : ℕ → ℕ → Evaluator → Type 0
SeeksItself q r e =
    (s : Stack) × ((e.stack q ≡ Some s) × ((s.top.rule ≡ r)
    × ((s.top.owns ≡ false) × (is_owner e q r ≡ false))))
