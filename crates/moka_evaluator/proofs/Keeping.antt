-- What each call keeps.
use Rattle.std.proofs.Common.{◌≡◌, ◌+◌, ℕ, zero, suc, nat_lt, Bool, true, false, cond, ◌&&◌, List, [], ◌∷◌, length, Option, Some, None, is_some, refl, sym, ap, ◌∙◌, arith}
use Rattle.moka_hist.specs.Finite.{put_at}
use Rattle.moka_evaluator.specs.Evaluator.{Evaluator, Stack, live}
use Rattle.moka_evaluator.specs.Finishing.{finished, moves_left, round, rounds, take_turns}
use Rattle.moka_evaluator.specs.Laws.{EvaluatesOnce, Keeps, StaysKnown, asked_for, evaluates}
use Rattle.moka_evaluator.specs.Plain.{rule_at}
use Rattle.moka_evaluator.specs.Sound.{IsSound}
use Rattle.moka_evaluator.specs.Steps.{asked, dropped, just, let_go, line_after, most_live, passed, turned}
use Rattle.moka_evaluator.proofs.Answering.{rules_stay, stack_was}
use Rattle.moka_evaluator.proofs.Basics.{none_some, put_cases, some_same}
use Rattle.moka_evaluator.proofs.Calling.{asked_sound, dropped_sound, turned_sound}
use Rattle.moka_evaluator.proofs.Finishing.{finish_sound, turns_sound}
use Rattle.moka_evaluator.proofs.Promised.{evaluates_owned, in_one_frame, known_closed, known_stays, one_evaluates}

-- a sound evaluator evaluates each rule once
pub sound_once : (e : Evaluator) → IsSound e → EvaluatesOnce e
sound_once e sound =
    record {
      query = λ p q r s t here there own too. one_evaluates e p q r s t sound here there own too;
      frame = λ q r s is. in_one_frame e q r s sound is;
      unknown = λ q r s is own. by q r s is own (e.known r) refl;
    }
  where
    by : (q r : ℕ) (s : Stack) → e.stack q ≡ Some s → evaluates s r ≡ true → (x : Option ℕ) → e.known r ≡ x → x ≡ None
    by q r s is own None unknown = refl
    by q r s is own (Some v) known =
        absurd (none_some (sym (sound.closed r v known) ∙ evaluates_owned e.rules e.owner q r s (sound.stacks q s is) own))

-- a query that is live afterwards was so before, and is asked for the same rule
abbrev pub WasLive : Evaluator → Evaluator → Type 0
WasLive before after =
    (q : ℕ) (t : Stack) → after.stack q ≡ Some t → (s : Stack) × (before.stack q ≡ Some s) × (asked_for t ≡ asked_for s)

same_asked : (before after : Evaluator) → WasLive before after → (q : ℕ) (s t : Stack) → before.stack q ≡ Some s →
    after.stack q ≡ Some t → asked_for t ≡ asked_for s
same_asked before after was q s t here there =
    let before_that = was q t there in
    before_that.2 ∙ ap asked_for (some_same (sym before_that.1 ∙ here))

keeps_so : (before after : Evaluator) → IsSound after → after.rules ≡ before.rules →
    ((r v : ℕ) → before.known r ≡ Some v → StaysKnown after r v) →
    ((q : ℕ) (s t : Stack) → before.stack q ≡ Some s → after.stack q ≡ Some t → asked_for t ≡ asked_for s) → Keeps before after
keeps_so before after sound rules known same =
    record { rules = rules; known = known; same_rule = same; once = sound_once after sound }

-- ---- asking

module _ (e : Evaluator) (sound : IsSound e) (r : ℕ) where
  abbrev added : Evaluator
  added = record e { stack = put_at e.stack (e.last + 1) (Some (just r)); last = e.last + 1 }

  asked_rules : (b : Bool) → (cond {A = Option ℕ × Evaluator} b (Some (e.last + 1), added) (None, e)).1.rules ≡ e.rules
  asked_rules true = refl
  asked_rules false = refl

  asked_same : (b : Bool) (q : ℕ) (s t : Stack) → e.stack q ≡ Some s →
      (cond {A = Option ℕ × Evaluator} b (Some (e.last + 1), added) (None, e)).1.stack q ≡ Some t → asked_for t ≡ asked_for s
  asked_same false q s t here there = ap asked_for (some_same (sym there ∙ here))
  asked_same true q s t here there =
      put_cases e.stack (e.last + 1) (Some (just r)) q (Some t) (asked_for t ≡ asked_for s) there
      (λ new is. absurd (none_some (sym (sound.numbered (e.last + 1) (omega arith)) ∙ ap e.stack new ∙ here)))
      (λ old is. ap asked_for (some_same (sym is ∙ here)))

  pub asked_keeps : Keeps e (asked e r).1
  asked_keeps =
      keeps_so e (asked e r).1 (asked_sound e r sound)
      (asked_rules (is_some (rule_at e.rules r) && nat_lt (length (live e)) most_live))
      (λ n v known. (known_stays e n v r sound known).0)
      (asked_same (is_some (rule_at e.rules r) && nat_lt (length (live e)) most_live))

-- ---- turns

pub turned_keeps : (e : Evaluator) (q : ℕ) → IsSound e → Keeps e (turned e q).1
turned_keeps e q sound =
    keeps_so e (turned e q).1 (turned_sound e q sound) (rules_stay e q)
    (λ r v known. (known_stays e r v q sound known).1) (same_asked e (turned e q).1 (stack_was e sound q))

turns_rules : (queries : List ℕ) (e : Evaluator) → (take_turns e queries).1.rules ≡ e.rules
turns_rules [] e = refl
turns_rules (q ∷ queries) e = turns_rules queries (turned e q).1 ∙ rules_stay e q

turns_known : (queries : List ℕ) (e : Evaluator) → IsSound e → (r v : ℕ) → e.known r ≡ Some v →
    (take_turns e queries).1.known r ≡ Some v
turns_known [] e sound r v known = known
turns_known (q ∷ queries) e sound r v known =
    turns_known queries (turned e q).1 (turned_sound e q sound) r v (known_stays e r v q sound known).1.known

turns_were : (queries : List ℕ) (e : Evaluator) → IsSound e → WasLive e (take_turns e queries).1
turns_were [] e sound q t at = (t, at, refl)
turns_were (p ∷ queries) e sound q t at =
    let later = turns_were queries (turned e p).1 (turned_sound e p sound) q t at in
    let first = stack_was e sound p q later.0 later.1 in
    (first.0, first.1, later.2 ∙ first.2)

-- ---- finishing

rounds_rules : (n : ℕ) (e : Evaluator) → (rounds n e).1.rules ≡ e.rules
rounds_rules zero e = refl
rounds_rules (suc n) e = rounds_rules n (round e).1 ∙ turns_rules (live e) e

rounds_known : (n : ℕ) (e : Evaluator) → IsSound e → (r v : ℕ) → e.known r ≡ Some v → (rounds n e).1.known r ≡ Some v
rounds_known zero e sound r v known = known
rounds_known (suc n) e sound r v known =
    rounds_known n (round e).1 (turns_sound (live e) e sound) r v (turns_known (live e) e sound r v known)

rounds_were : (n : ℕ) (e : Evaluator) → IsSound e → WasLive e (rounds n e).1
rounds_were zero e sound q t at = (t, at, refl)
rounds_were (suc n) e sound q t at =
    let later = rounds_were n (round e).1 (turns_sound (live e) e sound) q t at in
    let first = turns_were (live e) e sound q later.0 later.1 in
    (first.0, first.1, later.2 ∙ first.2)

pub finished_keeps : (e : Evaluator) → IsSound e → Keeps e (finished e).1
finished_keeps e sound =
    keeps_so e (finished e).1 (finish_sound e sound) (rounds_rules (moves_left e) e)
    (λ r v known. known_closed (finished e).1 (finish_sound e sound) r v (rounds_known (moves_left e) e sound r v known))
    (same_asked e (finished e).1 (rounds_were (moves_left e) e sound))

-- ---- dropping

module _ (e : Evaluator) (sound : IsSound e) (q : ℕ) where
  abbrev gone : Evaluator
  gone = let_go e q (passed e q) (line_after e q)

  dropped_rules : (b : Bool) → (cond {A = Bool × Evaluator} b (true, gone) (false, e)).1.rules ≡ e.rules
  dropped_rules true = refl
  dropped_rules false = refl

  dropped_same : (b : Bool) (p : ℕ) (s t : Stack) → e.stack p ≡ Some s →
      (cond {A = Bool × Evaluator} b (true, gone) (false, e)).1.stack p ≡ Some t → asked_for t ≡ asked_for s
  dropped_same false p s t here there = ap asked_for (some_same (sym there ∙ here))
  dropped_same true p s t here there =
      put_cases e.stack q None p (Some t) (asked_for t ≡ asked_for s) there
      (λ its is. absurd (none_some is))
      (λ others is. ap asked_for (some_same (sym is ∙ here)))

  pub dropped_keeps : Keeps e (dropped e q).1
  dropped_keeps =
      keeps_so e (dropped e q).1 (dropped_sound e q sound) (dropped_rules (is_some (e.stack q)))
      (λ r v known. (known_stays e r v q sound known).2) (dropped_same (is_some (e.stack q)))
