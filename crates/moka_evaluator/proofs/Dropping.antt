-- The claims of an evaluator while a query is dropped.
use Rattle.std.proofs.Common.{◌≡◌, ◌≢◌, ℕ, ◌==◌, Bool, true, false, cond, ◌||◌, List, [], ◌∷◌, drop, Option, Some, None, is_some, slice_get, refl, sym, ap, ◌∙◌}
use Rattle.std.proofs.lemmas.Bool.{eq-eqb, false≢true}
use Rattle.std.specs.Option.{option_map, option_map_or, option_and_then}
use Rattle.moka_hist.specs.Finite.{put_at}
use Rattle.moka_evaluator.specs.Claimed.{AreClaims, Claimed, IsUnawaited, sought_by}
use Rattle.moka_evaluator.specs.Evaluator.{Evaluator, Stack, is_in, without}
use Rattle.moka_evaluator.specs.Sound.{IsSound, WaitsFor}
use Rattle.moka_evaluator.specs.Steps.{let_go}
use Rattle.moka_evaluator.proofs.Basics.{differ, first_in, none_some, put_cases, put_here, put_holds, put_there, some_same, stays_in, this_is}
use Rattle.moka_evaluator.proofs.Claiming.{put_both, rest_other, seeks_some}

module _ (e : Evaluator) (a : Claimed) (are : AreClaims e a) (q : ℕ) where
  -- a query that seeks nothing by a call of its own is gone
  pub keep_are : a.seeks q ≡ None → AreClaims (let_go e q e.owner e.line) a
  keep_are none = record {
    known = are.known;
    held = are.held;
    seeks = λ p. put_holds e.stack q None p (λ z. option_map (λ sought. sought.0) (a.seeks p) ≡ option_and_then (sought_by e p) z)
        (λ same. ap (λ n. option_map (λ sought. sought.0) (a.seeks n)) (sym same) ∙ ap (option_map (λ sought. sought.0)) none)
        (λ other. are.seeks p);
    waits = are.waits;
  }

  -- one that seeks a rule is gone, and left its line
  pub leave_are : (r : ℕ) → AreClaims (let_go e q e.owner (put_at e.line r (without q (e.line r))))
      (record a { seeks = put_at a.seeks q None })
  leave_are r = record {
    known = are.known;
    held = are.held;
    seeks = λ p. put_both a.seeks e.stack q None None p
        (λ y z. option_map (λ sought. sought.0) y ≡ option_and_then (sought_by e p) z)
        (λ same. refl) (λ other. are.seeks p);
    waits = λ p x w at unknown. put_cases a.seeks q None p (Some (x, w)) _ at
        (λ same none. absurd (none_some none))
        (λ other old. are.waits p x w old unknown ∙
        put_holds e.line r (without q (e.line r)) x (λ line. is_in p (e.line x) ≡ is_in p line)
        (λ same. ap (λ n. is_in p (e.line n)) (sym same) ∙ sym (stays_in p q (e.line r) (λ is. other (sym is)))) (λ apart. refl));
  }

module _ (e : Evaluator) (sound : IsSound e) (q : ℕ) (owner : ℕ → Option ℕ) (line : ℕ → List ℕ) (a : Claimed)
    (are : AreClaims (let_go e q owner line) a) (x : ℕ) (now : owner x ≡ Some q) (was : e.owner x ≡ Some q)
    (same_line : line x ≡ e.line x) where
  -- other queries than the owners of the rule own what they did
  owns_same : (heir : Option ℕ) (p : ℕ) → q ≢ p → heir ≢ Some p → (r : ℕ) →
      option_map_or (λ n. n == p) (put_at owner x heir r) false ≡ option_map_or (λ n. n == p) (owner r) false
  owns_same heir p other isnt r = put_holds owner x heir r (λ o. option_map_or (λ n. n == p) o false ≡ option_map_or (λ n. n == p) (owner r) false)
      (λ same. isnt_it heir isnt ∙ sym (ap (λ o. option_map_or (λ n. n == p) o false) (ap owner (sym same) ∙ now) ∙ differ q p other))
      (λ apart. refl)
    where
      isnt_it : (o : Option ℕ) → o ≢ Some p → option_map_or (λ n. n == p) o false ≡ false
      isnt_it None h = refl
      isnt_it (Some n) h = differ n p (λ same. h (ap Some same))

  -- so they seek what they did
  seeks_same : (heir : Option ℕ) (after : ℕ → List ℕ) (p : ℕ) → heir ≢ Some p →
      option_and_then (sought_by (let_go e q owner line) p) (put_at e.stack q None p) ≡
      option_and_then (sought_by (let_go e q (put_at owner x heir) after) p) (put_at e.stack q None p)
  seeks_same heir after p isnt = put_holds e.stack q None p
      (λ z. option_and_then (sought_by (let_go e q owner line) p) z ≡ option_and_then (sought_by (let_go e q (put_at owner x heir) after) p) z)
      (λ same. refl) (λ other. by other (e.stack p))
    where
      by : q ≢ p → (z : Option Stack) → option_and_then (sought_by (let_go e q owner line) p) z ≡
          option_and_then (sought_by (let_go e q (put_at owner x heir) after) p) z
      by other None = refl
      by other (Some t) = ap (λ b. cond (t.top.owns || b) None (Some t.top.rule)) (sym (owns_same heir p other isnt t.top.rule))

  -- ---- the rule goes to the first of its line

  module _ (h : ℕ) (first : slice_get (line x) 0 ≡ Some h) where
    heir_waits : WaitsFor e h x
    heir_waits = sound.waits x h (first_in h (e.line x) (ap (λ l. slice_get l 0) (sym same_line) ∙ first))

    heir_other : q ≢ h
    heir_other same = false≢true (sym heir_waits.other ∙ this_is (e.owner x) h (was ∙ ap Some same))

    -- who has a call of its own
    pub heir_seeks : is_some (a.seeks h) ≡ true
    heir_seeks = let found = seeks_some (a.seeks h) heir_waits.stack.top.rule (are.seeks h ∙
        ap (option_and_then (sought_by (let_go e q owner line) h)) (put_there e.stack q None h heir_other ∙ heir_waits.is) ∙
        (λ i. cond (heir_waits.seeks i || unowned i) None (Some heir_waits.stack.top.rule))) in ap is_some found.1
      where
        unowned : option_map_or (λ n. n == h) (owner heir_waits.stack.top.rule) false ≡ false
        unowned = ap (λ o. option_map_or (λ n. n == h) o false) (ap owner heir_waits.rule ∙ now) ∙ differ q h heir_other

    pub heir_are : AreClaims (let_go e q (put_at owner x (Some h)) (put_at line x (drop 1 (line x))))
        (record a { seeks = put_at a.seeks h None })
    heir_are = record {
      known = are.known;
      held = λ r. are.held r ∙ put_holds owner x (Some h) r (λ o. is_some (owner r) ≡ is_some o)
          (λ same. ap (λ n. is_some (owner n)) (sym same) ∙ ap is_some now) (λ apart. refl);
      seeks = λ p. put_holds a.seeks h None p
          (λ y. option_map (λ sought. sought.0) y ≡ option_and_then (sought_by (let_go e q (put_at owner x (Some h)) (put_at line x (drop 1 (line x)))) p) (put_at e.stack q None p))
          (λ same. sym (ap (option_and_then (sought_by (let_go e q (put_at owner x (Some h)) (put_at line x (drop 1 (line x)))) p)) (ap (put_at e.stack q None) (sym same) ∙
          put_there e.stack q None h heir_other ∙ heir_waits.is) ∙
          ap (λ b. cond b None (Some heir_waits.stack.top.rule)) (or_is heir_waits.stack.top.owns
          (ap (λ n. option_map_or (λ k. k == p) (put_at owner x (Some h) n) false) heir_waits.rule ∙
          ap (λ o. option_map_or (λ k. k == p) o false) (put_here owner x (Some h)) ∙ eq-eqb h p same))))
          (λ other. are.seeks p ∙ seeks_same (Some h) (put_at line x (drop 1 (line x))) p (λ is. other (some_same is)));
      waits = λ p r w at unknown. put_cases a.seeks h None p (Some (r, w)) _ at
          (λ same none. absurd (none_some none))
          (λ other old. are.waits p r w old unknown ∙
          put_holds line x (drop 1 (line x)) r (λ l. is_in p (line r) ≡ is_in p l)
          (λ same. ap (λ n. is_in p (line n)) (sym same) ∙ sym (rest_other p h (line x) first other)) (λ apart. refl));
    }
      where
        or_is : (b : Bool) {c : Bool} → c ≡ true → (b || c) ≡ true
        or_is true e = refl
        or_is false e = e

  -- ---- the rule is free

  module _ (none : slice_get (line x) 0 ≡ None) where
    empty_line : line x ≡ []
    empty_line = by (line x) none
      where
        by : (l : List ℕ) → slice_get l 0 ≡ None → l ≡ []
        by [] e = refl
        by (n ∷ ns) e = absurd (none_some (sym e))

    pub was_held : a.held x ≡ true
    was_held = are.held x ∙ ap is_some now

    pub unawaited : IsUnawaited a x
    unawaited p at = false≢true (sym (are.waits p x true at unknown ∙ ap (is_in p) empty_line))
      where
        unknown : e.known x ≡ None
        unknown = by (e.known x) refl
          where
            by : (k : Option ℕ) → e.known x ≡ k → k ≡ None
            by None e = refl
            by (Some v) known = absurd (none_some (sym (sound.closed x v known) ∙ was))

    pub free_are : AreClaims (let_go e q (put_at owner x None) (put_at line x (drop 1 (line x))))
        (record a { held = put_at a.held x false })
    free_are = record {
      known = are.known;
      held = λ r. put_both a.held owner x false None r (λ b o. b ≡ is_some o) (λ same. refl) (λ other. are.held r);
      seeks = λ p. are.seeks p ∙ seeks_same None (put_at line x (drop 1 (line x))) p (λ is. none_some is);
      waits = λ p r w at unknown. are.waits p r w at unknown ∙
          put_holds line x (drop 1 (line x)) r (λ l. is_in p (line r) ≡ is_in p l)
          (λ same. ap (λ n. is_in p (line n)) (sym same) ∙ ap (is_in p) (empty_line ∙ sym (ap (drop 1) empty_line))) (λ apart. refl);
    }
