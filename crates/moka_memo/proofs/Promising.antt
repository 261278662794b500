-- What the calls promise.
use Rattle.std.proofs.Common.{◌≡◌, ◌+◌, ℕ, nat_eq, Bool, true, false, cond, ◌&&◌, nat_lt, length, List, Option, Some, None, IfSome, is_some, refl, sym, ap, ◌∙◌, subst}
use Rattle.std.specs.List.{AllByRecursion}
use Rattle.std.specs.HashMap.{get}
use Rattle.moka_hist.specs.Finite.{put_at}
use Rattle.moka_claims.specs.Claims.{AsksOnce}
use Rattle.moka_evaluator.specs.Evaluator.{Evaluator, Stack, live}
use Rattle.moka_evaluator.specs.Finishing.{IsPlainAnswer, answer_in, finished}
use Rattle.moka_evaluator.specs.Laws.{IsAskedFor}
use Rattle.moka_evaluator.specs.Plain.{rule_at}
use Rattle.moka_evaluator.specs.Steps.{asked, just, most_live, turned}
use Rattle.moka_evaluator.specs.declared.answers.Answer.{Answer}
use Rattle.moka_evaluator.specs.declared.turns.Turned.{Turned}
use Rattle.moka_evaluator.proofs.Answering.{finished_plain, turn_plain}
use Rattle.moka_evaluator.proofs.Basics.{none_some, put_here, some_same}
use Rattle.moka_stacks.specs.Queries.{stack_at}
use Rattle.moka_memo.specs.Memo.{IsMemo, IsPlainTurn, IsUsable, LoadsOnce}
use Rattle.moka_memo.specs.declared.memo.Memo.{Memo}

-- two calls that ask for one rule are the one that holds it
pub loads_once : (memo : Memo) → LoadsOnce memo
loads_once memo e is n k a b first second same =
    some_same (sym (is.claims.fits.asks n a first).1 ∙ ap (λ r. calls r) same ∙ (is.claims.fits.asks k b second).1)
  where
    calls : ℕ → Option ℕ
    calls r = get nat_eq memo.claims.calls r

-- a turn's answer is plain
pub plain_turn : (memo : Memo) (e : Evaluator) → IsMemo memo e → (q : ℕ) (said : Turned) → said ≡ (turned e q).0 → IsPlainTurn e q said
plain_turn memo e is q said same = subst (IsPlainTurn e q) (sym same) (turn_plain e is.sound q)

-- and so are those of a finish
pub plain_finish : (memo : Memo) (e : Evaluator) → IsMemo memo e → (answers : List Answer) → answers ≡ (finished e).0 →
    AllByRecursion (IsPlainAnswer e) answers
plain_finish memo e is answers same = subst (AllByRecursion (IsPlainAnswer e)) (sym same) (finished_plain e is.sound)

-- the query that was asked is asked for the rule
asked_here : (e : Evaluator) (r number : ℕ) → (b : Bool) →
    Some number ≡ (cond {A = Option ℕ × Evaluator} b
    (Some (e.last + 1), record e { stack = put_at e.stack (e.last + 1) (Some (just r)); last = e.last + 1 }) (None, e)).0 →
    (cond {A = Option ℕ × Evaluator} b
    (Some (e.last + 1), record e { stack = put_at e.stack (e.last + 1) (Some (just r)); last = e.last + 1 }) (None, e)).1.stack number ≡ Some (just r)
asked_here e r number false is = absurd (none_some (sym is))
asked_here e r number true is =
    ap (put_at e.stack (e.last + 1) (Some (just r))) (some_same is) ∙ put_here e.stack (e.last + 1) (Some (just r))

pub asks_for : (old new : Memo) → old.spent ≡ false → IsUsable old → (r : ℕ) (query : Option ℕ) →
    ((e : Evaluator) → IsMemo old e → (query ≡ (asked e r).0) × IsMemo new (asked e r).1) →
    IfSome query (λ number. (e : Evaluator) → IsMemo new e → IsAskedFor e number r)
asks_for old new unspent usable r None came = tt
asks_for old new unspent usable r (Some number) came =
    let stands = usable unspent in
    let e = stands.0 in
    let came_so = came e stands.1.0 in
    λ after is. (
      just r,
      sym (is.stack number) ∙ came_so.1.stack number ∙
          asked_here e r number (is_some (rule_at e.rules r) && nat_lt (length (live e)) most_live) came_so.0,
      refl,
    )
