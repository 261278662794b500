-- What calls do to a sound evaluator.
use Rattle.std.proofs.Common.{◌≡◌, ◌+◌, ℕ, ◌==◌, nat_lt, Bool, true, false, cond, ◌&&◌, [], Option, Some, None, is_some, length, refl, sym, ◌∙◌, subst}
use Rattle.std.proofs.lemmas.Bool.{eqb-true}
use Rattle.moka_hist.specs.Finite.{put_at}
use Rattle.moka_evaluator.specs.Evaluator.{Evaluator, Stack, live}
use Rattle.moka_evaluator.specs.Plain.{rule_at}
use Rattle.moka_evaluator.specs.Sound.{IsSound}
use Rattle.moka_evaluator.specs.Steps.{asked, comes_off, dropped, just, line_after, most_live, needs, owns_top, passed, seeks, seeks_unknown, turned, turned_at, waits, with_known, with_stack, worked_out, works}
use Rattle.moka_evaluator.specs.declared.rules.Rule.{Rule}
use Rattle.moka_evaluator.proofs.Basics.{none_some, put_same, some_same}
use Rattle.moka_evaluator.proofs.Sounding.{ask_sound, drop_sound, off_sound, own_sound, push_sound, wait_sound}
use Rattle.moka_evaluator.proofs.Stacks.{worked_plain}

pub asked_sound : (e : Evaluator) (r : ℕ) → IsSound e → IsSound (asked e r).1
asked_sound e r sound = by (rule_at e.rules r) (nat_lt (length (live e)) most_live) refl
  where
    by : (x : Option Rule) (b : Bool) → rule_at e.rules r ≡ x →
        IsSound (cond {A = Option ℕ × Evaluator} (is_some x && b) (Some (e.last + 1), record e { stack = put_at e.stack (e.last + 1) (Some (just r)); last = e.last + 1 }) (None, e)).1
    by None b is = sound
    by (Some rule) false is = sound
    by (Some rule) true is = ask_sound e sound r rule is

module _ (e : Evaluator) (sound : IsSound e) (q : ℕ) (s : Stack) (is : e.stack q ≡ Some s) where
  -- a known rule is as if it became known now
  pub known_again : (v : ℕ) → e.known s.top.rule ≡ Some v → with_known e s.top.rule v ≡ e
  known_again v known =
      let closed = sound.closed s.top.rule v known in
      λ i. record e {
        known = (put_same e.known s.top.rule (Some v) known) i;
        owner = (put_same e.owner s.top.rule None closed) i;
        line = (put_same e.line s.top.rule [] (sound.free s.top.rule closed)) i;
      }

  pub seeks_sound : (x : Option ℕ) → e.known s.top.rule ≡ x → s.top.owns ≡ false → IsSound (seeks e q s x).1
  seeks_sound (Some v) known isnt =
      subst (λ d. IsSound (comes_off d q v s.below).1) (known_again v known)
      (off_sound e sound q s is v (sound.plain s.top.rule v known)
      (λ p owned. absurd (none_some (sym (sound.closed s.top.rule v known) ∙ owned))) s.below refl)
  seeks_sound None unknown isnt = by (e.owner s.top.rule) refl
    where
      by : (o : Option ℕ) → e.owner s.top.rule ≡ o → IsSound (seeks_unknown e q s o).1
      by None none = own_sound e sound q s is unknown (λ p owned. absurd (none_some (sym none ∙ owned)))
      by (Some o) some = which (o == q) refl
        where
          which : (b : Bool) → (o == q) ≡ b → IsSound (cond b (owns_top e q s) (waits e q s.top.rule)).1
          which true same = own_sound e sound q s is unknown
              (λ p owned. some_same (sym owned ∙ some) ∙ eqb-true o q same)
          which false other = wait_sound e sound q s is o isnt some other

  pub works_sound : (x : Option ℕ) → needs e.rules s.top ≡ x → s.top.owns ≡ true → IsSound (works e q s x).1
  works_sound (Some a) need owns = push_sound e sound q s is a owns need
  works_sound None none owns =
      let top = (sound.stacks q s is).top in
      off_sound e sound q s is (worked_out e.rules s.top) (worked_plain e.rules sound.acyclic e.owner q s.top top none)
      (λ p owned. some_same (sym owned ∙ top.owned owns)) s.below refl

  pub turns_sound : IsSound (turned_at e q (Some s)).1
  turns_sound = by s.top.owns refl
    where
      by : (b : Bool) → s.top.owns ≡ b → IsSound (cond b (works e q s (needs e.rules s.top)) (seeks e q s (e.known s.top.rule))).1
      by true owns = works_sound (needs e.rules s.top) refl owns
      by false isnt = seeks_sound (e.known s.top.rule) refl isnt

pub turned_sound : (e : Evaluator) (q : ℕ) → IsSound e → IsSound (turned e q).1
turned_sound e q sound = by (e.stack q) refl
  where
    by : (x : Option Stack) → e.stack q ≡ x → IsSound (turned_at e q x).1
    by None none = sound
    by (Some s) is = turns_sound e sound q s is

pub dropped_sound : (e : Evaluator) (q : ℕ) → IsSound e → IsSound (dropped e q).1
dropped_sound e q sound = by (e.stack q) refl
  where
    by : (x : Option Stack) → e.stack q ≡ x → IsSound (cond {A = Bool × Evaluator} (is_some x) (true, record (with_stack e q None) { owner = passed e q; line = line_after e q }) (false, e)).1
    by None none = sound
    by (Some s) is = drop_sound e sound q s is
