-- Top frames, and what an evaluator does where it is known where it stands.
use Rattle.std.proofs.Common.{◌≡◌, ◌≢◌, ◌<◌, ◌≤◌, ◌+◌, ℕ, ◌==◌, nat_lt, Bool, true, false, cond, ◌&&◌, length, Option, Some, None, is_some, refl, sym, ap, ◌∙◌, arith}
use Rattle.std.proofs.lemmas.Bool.{eq-eqb, false≢true, ltb-true, ltb-false}
use Rattle.std.specs.Option.{option_map}
use Rattle.moka_hist.specs.Finite.{put_at}
use Rattle.moka_evaluator.specs.Evaluator.{Evaluator, Stack, live}
use Rattle.moka_evaluator.specs.Plain.{rule_at}
use Rattle.moka_evaluator.specs.Steps.{asked, just, most_live, needs, owns_top, seeks, seeks_unknown, turned, turned_at, waits, works}
use Rattle.moka_evaluator.specs.declared.frames.Frame.{Frame}
use Rattle.moka_evaluator.proofs.Basics.{none_some, some_same}

-- the stack that has this top frame
pub with_top : (x y : Option Stack) (top : Frame) → Some top ≡ option_map (λ s. s.top) x → x ≡ y →
    (s : Stack) × ((y ≡ Some s) × (s.top ≡ top))
with_top None y top e same = absurd (none_some (sym e))
with_top (Some s) y top e same = (s, (sym same, sym (some_same e)))

pub without_top : (x y : Option Stack) → None ≡ option_map (λ s. s.top) x → x ≡ y → y ≡ None
without_top None y e same = sym same
without_top (Some s) y e same = absurd (none_some e)

-- ---- asking

pub asked_full : (e : Evaluator) (r : ℕ) → most_live ≤ length (live e) → asked e r ≡ (None, e)
asked_full e r full = by (is_some (rule_at e.rules r)) (nat_lt (length (live e)) most_live) refl
  where
    by : (a b : Bool) → nat_lt (length (live e)) most_live ≡ b →
        cond {A = Option ℕ × Evaluator} (a && b) (Some (e.last + 1), record e { stack = put_at e.stack (e.last + 1) (Some (just r)); last = e.last + 1 }) (None, e) ≡ (None, e)
    by true true less = let below : length (live e) < most_live = ltb-true (length (live e)) most_live less in absurd (omega (arith, below, full))
    by true false less = refl
    by false b less = refl

pub asked_none : (e : Evaluator) (r : ℕ) → rule_at e.rules r ≡ None → asked e r ≡ (None, e)
asked_none e r none = ap (λ x. cond {A = Option ℕ × Evaluator} (is_some x && nat_lt (length (live e)) most_live)
    (Some (e.last + 1), record e { stack = put_at e.stack (e.last + 1) (Some (just r)); last = e.last + 1 }) (None, e)) none

pub asked_so : (e : Evaluator) (r : ℕ) → is_some (rule_at e.rules r) ≡ true → length (live e) < most_live →
    asked e r ≡ (Some (e.last + 1), record e { stack = put_at e.stack (e.last + 1) (Some (just r)); last = e.last + 1 })
asked_so e r some room = by (is_some (rule_at e.rules r)) (nat_lt (length (live e)) most_live) some refl
  where
    by : (a b : Bool) → a ≡ true → nat_lt (length (live e)) most_live ≡ b →
        cond {A = Option ℕ × Evaluator} (a && b) (Some (e.last + 1), record e { stack = put_at e.stack (e.last + 1) (Some (just r)); last = e.last + 1 }) (None, e) ≡
        (Some (e.last + 1), record e { stack = put_at e.stack (e.last + 1) (Some (just r)); last = e.last + 1 })
    by true true is less = refl
    by true false is less = let above : most_live ≤ length (live e) = ltb-false (length (live e)) most_live less in absurd (omega (arith, above, room))
    by false b is less = absurd (false≢true is)

-- ---- turns

module _ (e : Evaluator) (q : ℕ) (s : Stack) where
  pub turned_is : e.stack q ≡ Some s → turned e q ≡ turned_at e q (Some s)
  turned_is at = ap (turned_at e q) at

  pub works_is : s.top.owns ≡ true → turned_at e q (Some s) ≡ works e q s (needs e.rules s.top)
  works_is owns = ap (λ b. cond b (works e q s (needs e.rules s.top)) (seeks e q s (e.known s.top.rule))) owns

  pub seeks_is : s.top.owns ≡ false → turned_at e q (Some s) ≡ seeks e q s (e.known s.top.rule)
  seeks_is isnt = ap (λ b. cond b (works e q s (needs e.rules s.top)) (seeks e q s (e.known s.top.rule))) isnt

  -- the rule is unknown, and was passed to the query
  pub passed_is : e.known s.top.rule ≡ None → e.owner s.top.rule ≡ Some q → seeks e q s (e.known s.top.rule) ≡ owns_top e q s
  passed_is unknown passed =
      ap (seeks e q s) unknown ∙ ap (seeks_unknown e q s) passed ∙
      ap (λ b. cond b (owns_top e q s) (waits e q s.top.rule)) (eq-eqb q q refl)

  -- it is unknown, and free
  pub free_is : e.known s.top.rule ≡ None → e.owner s.top.rule ≡ None → seeks e q s (e.known s.top.rule) ≡ owns_top e q s
  free_is unknown free = ap (seeks e q s) unknown ∙ ap (seeks_unknown e q s) free

  -- it is unknown, and another one's
  pub other_is : (o : ℕ) → e.known s.top.rule ≡ None → e.owner s.top.rule ≡ Some o → (o == q) ≡ false →
      seeks e q s (e.known s.top.rule) ≡ waits e q s.top.rule
  other_is o unknown owned other =
      ap (seeks e q s) unknown ∙ ap (seeks_unknown e q s) owned ∙
      ap (λ b. cond b (owns_top e q s) (waits e q s.top.rule)) other
