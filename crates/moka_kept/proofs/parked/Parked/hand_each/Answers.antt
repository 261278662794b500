-- Call after call, in the order of the list.
use Rattle.std.proofs.Common.{◌≡◌, ℕ, ◌==◌, ◌||◌, Bool, true, false, cond, List, [], ◌∷◌, ◌++◌, refl, sym, ap, ◌∙◌, subst}
use Rattle.std.proofs.lemmas.Bool.{eqb-true, eqb-false, eq-eqb, ne_eqb}
use Rattle.std.proofs.lemmas.Iterator.Consumers.{YieldsList-end, YieldsList-from_first}
use Rattle.std.proofs.lemmas.List.{map-id}
use Rattle.moka_sync.specs.CallsLeft.{calls_left}
use Rattle.moka_sync.specs.Waiting.{waits}
use Rattle.moka_sync.proofs.Stands.{waits-append}
use Rattle.moka_kept.specs.Parked.{is_parked}
use Rattle.moka_kept.proofs.parked.Parked.hand_each.Goals as goal

same_either_way : (a b : ℕ) → (a == b) ≡ (b == a)
same_either_way a b = by (a == b) refl where
  by : (x : Bool) → (a == b) ≡ x → x ≡ (b == a)
  by true e = sym (eq-eqb b a (sym (eqb-true a b e)))
  by false e = sym (ne_eqb b a (λ f. eqb-false a b e (sym f)))

waits_one : (n call : ℕ) → waits n (call ∷ []) ≡ (call == n)
waits_one n call = by (n == call) (same_either_way n call) where
  by : (x : Bool) → x ≡ (call == n) → (x || false) ≡ (call == n)
  by true e = e
  by false e = e

handed : (n call : ℕ) (xs : List ℕ) (was now later : Bool) → now ≡ cond (waits n xs) false was → later ≡ cond (call == n) false now → later ≡ cond (waits n (xs ++ call ∷ [])) false was
handed n call xs was now later before then =
    then ∙ ap (λ b. cond (call == n) false b) before ∙ by (waits n xs) (call == n)
    ∙ ap (λ b. cond b false was) (ap (λ b. waits n xs || b) (sym (waits_one n call)) ∙ sym (waits-append n xs (call ∷ [])))
  where
    by : (a b : Bool) → cond b false (cond a false was) ≡ cond (a || b) false was
    by true true = refl
    by true false = refl
    by false true = refl
    by false false = refl

pub loop-call-preserved : goal.loop-call-preserved
loop-call-preserved c = λ n. handed n c.in-Some.call c.loop-call.yielded _ _ _ (c.loop-call.invariant n) (c.hand_one.ensures.parked n)

pub returns : goal.returns
returns c = λ n.
    let end = YieldsList-end (YieldsList-from_first (λ x. x) calls_left c.args.calls.now (ap calls_left c.into_iter-call-iterator.ensures.into_iter_gives ∙ c.iter-call-items.ensures)) c.loop-call.yielded c.loop-call.call-iterator c.loop-call.yielded_by c.next.result c.next.new.self c.in-None.is c.next.ensures.steps in
    subst (λ (xs : List ℕ). is_parked c.loop-call.self n ≡ cond (waits n xs) false (is_parked c.args.self.now n)) (sym (map-id c.loop-call.yielded) ∙ end.0) (c.loop-call.invariant n)
