-- How many queries are live, and how many rules are known.
use Rattle.std.proofs.Common.{◌≡◌, ◌<◌, ◌≤◌, ◌+◌, ℕ, zero, suc, nat_lt, Bool, true, false, cond, [], ◌∷◌, ◌++◌, length, Option, Some, None, is_some, refl, sym, ap, ◌∙◌, arith, length-append, add-one}
use Rattle.std.proofs.lemmas.Bool.{ltb-true, ltb-false}
use Rattle.moka_hist.specs.Finite.{put_at}
use Rattle.moka_evaluator.specs.Evaluator.{Evaluator, Stack, known_in, live, numbers_to}
use Rattle.moka_evaluator.specs.Plain.{rule_at}
use Rattle.moka_evaluator.specs.Sound.{IsSound}
use Rattle.moka_evaluator.specs.Steps.{just, with_known, with_stack}
use Rattle.moka_evaluator.specs.declared.rules.Rule.{Rule}
use Rattle.moka_evaluator.proofs.Basics.{none_some, put_here, put_holds, put_there}
use Rattle.moka_evaluator.proofs.Counting.{count_more, count_same, numbers_same, rule_within}

module _ (e : Evaluator) (sound : IsSound e) (q : ℕ) (s : Stack) (lives : e.stack q ≡ Some s) where
  -- a live query with another stack
  pub live_same : (t : Stack) → length (live (with_stack e q (Some t))) ≡ length (live e)
  live_same t = count_same e.last (λ k. is_some (put_at e.stack q (Some t) k)) (λ k. is_some (e.stack k))
      (λ k. put_holds e.stack q (Some t) k (λ x. is_some x ≡ is_some (e.stack k))
      (λ same. ap is_some (sym lives ∙ ap e.stack same)) (λ other. refl))

  pub its_number : (0 < q) × (q ≤ e.last)
  its_number = (positive q lives, within (nat_lt e.last q) refl)
    where
      positive : (k : ℕ) → e.stack k ≡ Some s → 0 < k
      positive zero is = absurd (none_some (sym sound.first ∙ is))
      positive (suc k) is = omega arith

      within : (b : Bool) → nat_lt e.last q ≡ b → q ≤ e.last
      within true above = absurd (none_some (sym (sound.numbered q (ltb-true e.last q above)) ∙ lives))
      within false below = ltb-false e.last q below

  -- one that is live no longer
  pub live_less : length (live e) ≡ length (live (with_stack e q None)) + 1
  live_less = count_more e.last (λ k. is_some (put_at e.stack q None k)) (λ k. is_some (e.stack k)) q its_number.0 its_number.1
      (ap is_some (put_here e.stack q None)) (ap is_some lives)
      (λ k other. ap is_some (put_there e.stack q None k other))

  -- one whose top frame came off
  pub live_off : (t : Option Stack) → length (live (with_stack e q t)) + cond (is_some t) 0 1 ≡ length (live e)
  live_off (Some t) = zero_more (live_same t)
    where
      zero_more : length (live (with_stack e q (Some t))) ≡ length (live e) → length (live (with_stack e q (Some t))) + 0 ≡ length (live e)
      zero_more same = omega (arith, same)
  live_off None = sym live_less

-- one that was asked
module _ (e : Evaluator) (sound : IsSound e) (r : ℕ) where
  -- which queries are live then
  abbrev lives_then : ℕ → Bool
  lives_then k = is_some (put_at e.stack (e.last + 1) (Some (just r)) k)

  new_lives : lives_then (suc e.last) ≡ true
  new_lives = ap lives_then (sym (add-one e.last)) ∙ ap is_some (put_here e.stack (e.last + 1) (Some (just r)))

  others_live : numbers_to e.last lives_then ≡ live e
  others_live = numbers_same e.last lives_then (λ k. is_some (e.stack k))
      (λ k le. ap is_some (put_there e.stack (e.last + 1) (Some (just r)) k (λ same. omega (arith, le, same))))

  pub live_more : length (live (record e { stack = put_at e.stack (e.last + 1) (Some (just r)); last = e.last + 1 }))
      ≡ length (live e) + 1
  live_more =
      ap (λ n. length (numbers_to n lives_then)) (add-one e.last) ∙
      (λ i. length (others_live i ++ cond (new_lives i) (suc e.last ∷ []) [])) ∙
      length-append (live e) (suc e.last ∷ [])

-- a rule that becomes known
pub known_more : (e : Evaluator) (r v : ℕ) (rule : Rule) → rule_at e.rules r ≡ Some rule → e.known r ≡ None →
    known_in (with_known e r v) ≡ known_in e + 1
known_more e r v rule is unknown =
    let within = rule_within e.rules r rule is in
    count_more (length e.rules) (λ k. is_some (e.known k)) (λ k. is_some (put_at e.known r (Some v) k)) r within.0 within.1
    (ap is_some unknown) (ap is_some (put_here e.known r (Some v)))
    (λ k other. ap is_some (sym (put_there e.known r (Some v) k other)))
