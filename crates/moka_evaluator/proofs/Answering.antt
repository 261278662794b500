-- What a finish answers are plain values.
use Rattle.std.proofs.Common.{◌≡◌, ℕ, zero, suc, ◌==◌, Bool, true, false, cond, List, [], ◌∷◌, ◌++◌, Option, Some, None, refl, sym, ap, ◌∙◌}
use Rattle.std.proofs.lemmas.Bool.{eqb-true}
use Rattle.std.specs.List.{AllByRecursion}
use Rattle.moka_evaluator.specs.Evaluator.{Evaluator, Stack, live}
use Rattle.moka_evaluator.specs.Finishing.{FinishedArePlain, IsPlainAnswer, answer_in, moves_left, round, rounds, take_turns}
use Rattle.moka_evaluator.specs.Laws.{asked_for}
use Rattle.moka_evaluator.specs.Plain.{plain}
use Rattle.moka_evaluator.specs.Sound.{IsSound}
use Rattle.moka_evaluator.specs.Steps.{needs, owns_top, seeks, seeks_unknown, turned, turned_at, waits, works}
use Rattle.moka_evaluator.specs.declared.answers.Answer.{Answer}
use Rattle.moka_evaluator.specs.declared.turns.Turned.{Turned}
use Rattle.moka_evaluator.specs.declared.turns.Turned.TheVariants as turn
use Rattle.moka_evaluator.proofs.Basics.{differ_not}
use Rattle.moka_evaluator.proofs.Calling.{turned_sound}
use Rattle.moka_evaluator.proofs.Finishing.{turns_sound}
use Rattle.moka_evaluator.proofs.Promised.{answers_plain, others_stay, rule_stays}

no_query : {v : ℕ} → turn.NoQuery ≡ turn.Value v → ⊥
no_query e = cc

-- turns leave the rules as they are
pub rules_stay : (e : Evaluator) (q : ℕ) → (turned e q).1.rules ≡ e.rules
rules_stay e q = by (e.stack q)
  where
    work : (s : Stack) (x : Option ℕ) → (works e q s x).1.rules ≡ e.rules
    work s None = refl
    work s (Some a) = refl

    own : (s : Stack) (b : Bool) → (cond b (owns_top e q s) (waits e q s.top.rule)).1.rules ≡ e.rules
    own s true = refl
    own s false = refl

    unknown : (s : Stack) (o : Option ℕ) → (seeks_unknown e q s o).1.rules ≡ e.rules
    unknown s None = refl
    unknown s (Some o) = own s (o == q)

    seek : (s : Stack) (x : Option ℕ) → (seeks e q s x).1.rules ≡ e.rules
    seek s (Some v) = refl
    seek s None = unknown s (e.owner s.top.rule)

    turn_it : (s : Stack) (b : Bool) → (cond b (works e q s (needs e.rules s.top)) (seeks e q s (e.known s.top.rule))).1.rules ≡ e.rules
    turn_it s true = work s (needs e.rules s.top)
    turn_it s false = seek s (e.known s.top.rule)

    by : (x : Option Stack) → (turned_at e q x).1.rules ≡ e.rules
    by None = refl
    by (Some s) = turn_it s s.top.owns

module _ (e : Evaluator) (sound : IsSound e) (q : ℕ) where
  -- a query that is live after a turn was so before, and is asked for the same rule
  pub stack_was : (p : ℕ) (t : Stack) → (turned e q).1.stack p ≡ Some t → (s : Stack) × (e.stack p ≡ Some s) × (asked_for t ≡ asked_for s)
  stack_was p t at = by (q == p) refl
    where
      its : (x : Option Stack) → e.stack q ≡ x → (turned e q).1.stack q ≡ Some t → (s : Stack) × (e.stack q ≡ Some s) × (asked_for t ≡ asked_for s)
      its None none at = (t, sym (ap (λ x. (turned_at e q x).1.stack q) none) ∙ at, refl)
      its (Some s) is at = (s, is, rule_stays e q s t sound is at)

      by : (b : Bool) → (q == p) ≡ b → (s : Stack) × (e.stack p ≡ Some s) × (asked_for t ≡ asked_for s)
      by true same =
          let here = eqb-true q p same in
          let was = its (e.stack q) refl (ap (turned e q).1.stack here ∙ at) in
          (was.0, ap e.stack (sym here) ∙ was.1, was.2)
      by false other = (t, sym (others_stay e p q (differ_not q p other)) ∙ at, refl)

  later_plain : (a : Answer) → IsPlainAnswer (turned e q).1 a → IsPlainAnswer e a
  later_plain a is =
      let was = stack_was a.query is.0 is.1 in
      (was.0, was.1, is.2 ∙ (λ i. plain (rules_stay e q i) (was.2 i)))

  pub turn_plain : AllByRecursion (IsPlainAnswer e) (answer_in q (turned e q).0)
  turn_plain = by (turned e q).0 refl
    where
      live_plain : (v : ℕ) → (turned e q).0 ≡ turn.Value v → (x : Option Stack) → e.stack q ≡ x → IsPlainAnswer e (record { query = q; value = v })
      live_plain v says None none = absurd (no_query (sym (ap (λ x. (turned_at e q x).0) none) ∙ says))
      live_plain v says (Some s) is = (s, is, answers_plain e q s v sound is says)

      by : (said : Turned) → (turned e q).0 ≡ said → AllByRecursion (IsPlainAnswer e) (answer_in q said)
      by turn.Moved says = tt
      by (turn.Waits r) says = tt
      by (turn.Value v) says = (live_plain v says (e.stack q) refl, tt)
      by turn.NoQuery says = tt

all_so : (P Q : Answer → Type 0) → ((a : Answer) → P a → Q a) → (xs : List Answer) → AllByRecursion P xs → AllByRecursion Q xs
all_so P Q so [] all = tt
all_so P Q so (x ∷ xs) all = (so x all.0, all_so P Q so xs all.1)

all_both : (P : Answer → Type 0) (xs ys : List Answer) → AllByRecursion P xs → AllByRecursion P ys → AllByRecursion P (xs ++ ys)
all_both P [] ys all others = others
all_both P (x ∷ xs) ys all others = (all.0, all_both P xs ys all.1 others)

turns_later : (queries : List ℕ) (e : Evaluator) → IsSound e → (a : Answer) → IsPlainAnswer (take_turns e queries).1 a → IsPlainAnswer e a
turns_later [] e sound a is = is
turns_later (q ∷ queries) e sound a is =
    later_plain e sound q a (turns_later queries (turned e q).1 (turned_sound e q sound) a is)

turns_plain : (queries : List ℕ) (e : Evaluator) → IsSound e → AllByRecursion (IsPlainAnswer e) (take_turns e queries).0
turns_plain [] e sound = tt
turns_plain (q ∷ queries) e sound =
    all_both (IsPlainAnswer e) (answer_in q (turned e q).0) (take_turns (turned e q).1 queries).0 (turn_plain e sound q)
    (all_so (IsPlainAnswer (turned e q).1) (IsPlainAnswer e) (later_plain e sound q) (take_turns (turned e q).1 queries).0
    (turns_plain queries (turned e q).1 (turned_sound e q sound)))

rounds_plain : (n : ℕ) (e : Evaluator) → IsSound e → AllByRecursion (IsPlainAnswer e) (rounds n e).0
rounds_plain zero e sound = tt
rounds_plain (suc n) e sound =
    all_both (IsPlainAnswer e) (round e).0 (rounds n (round e).1).0 (turns_plain (live e) e sound)
    (all_so (IsPlainAnswer (round e).1) (IsPlainAnswer e) (turns_later (live e) e sound) (rounds n (round e).1).0
    (rounds_plain n (round e).1 (turns_sound (live e) e sound)))

pub finished_plain : FinishedArePlain
finished_plain e sound = rounds_plain (moves_left e) e sound
