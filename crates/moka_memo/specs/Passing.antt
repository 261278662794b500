-- A memo from which a query is being dropped.
use Rattle.std.specs.Prelude.{◌≡◌, ℕ, ◌==◌, Bool, true, false, cond, List, [], ◌∷◌, length, Option, Some, None}
use Rattle.std.specs.List.{list_any}
use Rattle.moka_hist.specs.Finite.{put_at}
use Rattle.moka_claims.specs.Claims.{IsClaims}
use Rattle.moka_evaluator.specs.Claimed.{AreClaims, Claimed}
use Rattle.moka_evaluator.specs.Evaluator.{Evaluator, Stack, known_in, live}
use Rattle.moka_evaluator.specs.Sound.{IsSound}
use Rattle.moka_evaluator.specs.Steps.{let_go, line_after, passed, with_stack}
use Rattle.moka_evaluator.specs.declared.frames.Frame.{Frame}
use Rattle.moka_stacks.specs.Places.{line_at, owner_at}
use Rattle.moka_stacks.specs.Queries.{count_of, stack_at}
use Rattle.moka_memo.specs.declared.memo.Memo.{Memo}

-- some frame is for the rule
abbrev pub framed : List Frame → ℕ → Bool
framed fs x = list_any (λ f. f.rule == x) fs

-- The query of the evaluator is gone from the memo, and each rule that it owned was passed, but those of
-- the frames.
pub record IsPassing (memo : Memo) (e : Evaluator) (q : ℕ) (fs : List Frame) : Type 0 where
  pub unspent : memo.spent ≡ false
  pub sound : IsSound e
  pub rules : memo.rules.items ≡ e.rules
  pub owner : (x : ℕ) → owner_at memo.places x ≡ cond (framed fs x) (e.owner x) (passed e q x)
  pub line : (x : ℕ) → line_at memo.places x ≡ cond (framed fs x) (e.line x) (line_after e q x)
  pub stack : (p : ℕ) → stack_at memo.queries p ≡ put_at e.stack q None p
  pub last : memo.last ≡ e.last
  pub live : count_of memo.queries ≡ length (live (with_stack e q None))
  pub known : memo.known ≡ known_in e
  pub claimed : Claimed
  pub claims : IsClaims memo.claims claimed
  pub are : AreClaims (let_go e q (owner_at memo.places) (line_at memo.places)) claimed

-- the rule is the next to be passed: it is owned by the query, and no later frame is for it
pub record IsNext (memo : Memo) (e : Evaluator) (q r : ℕ) (f : Frame) (fs : List Frame) : Type 0 where
  pub passing : IsPassing memo e q (f ∷ fs)
  pub rule : f.rule ≡ r
  pub owned : e.owner r ≡ Some q
  pub once : framed fs r ≡ false

-- the memo stands for the evaluator, but for the stack of the query, which was taken out
pub record IsLeaving (memo : Memo) (e : Evaluator) (q : ℕ) (s : Stack) : Type 0 where
  pub unspent : memo.spent ≡ false
  pub sound : IsSound e
  pub live_at : e.stack q ≡ Some s
  pub rules : memo.rules.items ≡ e.rules
  pub owner : (x : ℕ) → owner_at memo.places x ≡ e.owner x
  pub line : (x : ℕ) → line_at memo.places x ≡ e.line x
  pub stack : (p : ℕ) → stack_at memo.queries p ≡ put_at e.stack q None p
  pub last : memo.last ≡ e.last
  pub live : count_of memo.queries ≡ length (live (with_stack e q None))
  pub known : memo.known ≡ known_in e
  pub claimed : Claimed
  pub claims : IsClaims memo.claims claimed
  pub are : AreClaims e claimed
