-- The claims of an evaluator after each call.
use Rattle.std.proofs.Common.{◌≡◌, ◌≢◌, ◌<◌, ◌≤◌, ℕ, ◌==◌, Bool, true, false, cond, ◌||◌, List, [], ◌∷◌, ◌++◌, drop, Option, Some, None, is_some, slice_get, refl, sym, ap, ◌∙◌, subst, arith}
use Rattle.std.proofs.lemmas.Bool.{eqb-true, eq-eqb, false≢true}
use Rattle.std.specs.List.{list_any}
use Rattle.std.specs.Option.{option_map, option_map_or, option_and_then}
use Rattle.moka_hist.specs.Finite.{put_at}
use Rattle.moka_evaluator.specs.Claimed.{AreClaims, Claimed, no_claims, sought_by}
use Rattle.moka_evaluator.specs.Evaluator.{Evaluator, Stack, fresh, is_in, is_owner}
use Rattle.moka_evaluator.specs.Sound.{IsSound, LieBelow}
use Rattle.moka_evaluator.specs.Steps.{joined, just, needs, off, owns_top, seeking, waits, with_known, with_stack}
use Rattle.moka_evaluator.specs.declared.frames.Frame.{Frame}
use Rattle.moka_evaluator.specs.declared.rules.Rule.{Rule}
use Rattle.moka_evaluator.proofs.Basics.{differ, none_some, or_right, put_cases, put_here, put_holds, put_same, put_there, some_same, this_is}
use Rattle.moka_evaluator.proofs.Stacks.{need_less, stack_above}

-- two maps with something put at one number
pub put_both : {A B : Type 0} (f : ℕ → A) (g : ℕ → B) (n : ℕ) (v : A) (w : B) (m : ℕ) (P : A → B → Type 0) → (n ≡ m → P v w) →
    (n ≢ m → P (f m) (g m)) → P (put_at f n v m) (put_at g n w m)
put_both f g n v w m P here there = by (n == m) refl
  where
    by : (b : Bool) → (n == m) ≡ b → P (cond b v (f m)) (cond b w (g m))
    by true h = here (eqb-true n m h)
    by false h = there (λ same. false≢true (sym h ∙ eq-eqb n m same))

-- what a sought rule is
sought_rule : {r : ℕ} {w : Bool} (x : Option (ℕ × Bool)) → x ≡ Some (r, w) → option_map (λ sought. sought.0) x ≡ Some r
sought_rule x e = ap (option_map (λ sought. sought.0)) e

pub seeks_none : (x : Option (ℕ × Bool)) → option_map (λ sought. sought.0) x ≡ None → x ≡ None
seeks_none None e = refl
seeks_none (Some pair) e = absurd (none_some (sym e))

pub seeks_some : (x : Option (ℕ × Bool)) (r : ℕ) → option_map (λ sought. sought.0) x ≡ Some r → (w : Bool) × (x ≡ Some (r, w))
seeks_some None r e = absurd (none_some e)
seeks_some (Some pair) r e = (pair.1, λ i. Some (some_same e i, pair.1))

-- a query that isn't the one that owns a rule
not_this : (owner : Option ℕ) (q : ℕ) → owner ≢ Some q → option_map_or (λ o. o == q) owner false ≡ false
not_this None q isnt = refl
not_this (Some o) q isnt = differ o q (λ same. isnt (ap Some same))

-- who is in a line that another one joins
joined_other : (p q : ℕ) (line : List ℕ) → q ≢ p → is_in p (joined line q) ≡ is_in p line
joined_other p q line other = by (is_in q line)
  where
    more : (xs : List ℕ) → is_in p (xs ++ q ∷ []) ≡ is_in p xs
    more [] = ap (λ b. b || false) (differ q p other)
    more (x ∷ xs) = ap (λ b. (x == p) || b) (more xs)

    by : (b : Bool) → is_in p (cond b line (line ++ q ∷ [])) ≡ is_in p line
    by true = refl
    by false = more line

joined_self : (q : ℕ) (line : List ℕ) → is_in q (joined line q) ≡ true
joined_self q line = by (is_in q line) refl
  where
    last : (xs : List ℕ) → is_in q (xs ++ q ∷ []) ≡ true
    last [] = ap (λ b. b || false) (eq-eqb q q refl)
    last (x ∷ xs) = or_right (x == q) (is_in q (xs ++ q ∷ [])) (last xs)

    by : (b : Bool) → is_in q line ≡ b → is_in q (cond b line (line ++ q ∷ [])) ≡ true
    by true e = e
    by false e = last line

-- who isn't the first is in the rest as in the line
pub rest_other : (p h : ℕ) (line : List ℕ) → slice_get line 0 ≡ Some h → h ≢ p → is_in p (drop 1 line) ≡ is_in p line
rest_other p h [] e other = absurd (none_some e)
rest_other p h (x ∷ xs) e other = ap (λ b. b || is_in p xs) (sym (differ x p (λ same. other (sym (some_same e) ∙ same))))

pub fresh_are : (rules : List Rule) → AreClaims (fresh rules) no_claims
fresh_are rules = record {
  known = λ r. refl;
  held = λ r. refl;
  seeks = λ q. refl;
  waits = λ q r waits e. absurd (none_some e);
}

module _ (e : Evaluator) (sound : IsSound e) (a : Claimed) (are : AreClaims e a) where
  -- who isn't live owns nothing, and waits nowhere
  gone_owns_not : (q : ℕ) → e.stack q ≡ None → (r : ℕ) → is_owner e q r ≡ false
  gone_owns_not q none r = not_this (e.owner r) q (λ owned.
      let own = sound.owners r q owned in none_some (sym none ∙ own.is))

  gone_waits_not : (q : ℕ) → e.stack q ≡ None → (r : ℕ) → is_in q (e.line r) ≡ false
  gone_waits_not q none r = by (is_in q (e.line r)) refl
    where
      by : (b : Bool) → is_in q (e.line r) ≡ b → b ≡ false
      by true at = let wait = sound.waits r q at in absurd (none_some (sym none ∙ wait.is))
      by false at = refl

  -- who seeks a rule from now on
  new_waits : (q r p x : ℕ) (w : Bool) → ((y : ℕ) → is_in q (e.line y) ≡ false) → put_at a.seeks q (Some (r, false)) p ≡ Some (x, w) →
      e.known x ≡ None → w ≡ is_in p (e.line x)
  new_waits q r p x w nowhere at unknown = put_cases a.seeks q (Some (r, false)) p (Some (x, w)) _ at
      (λ same is. let pair = some_same is in
      sym (ap (λ t. t.1) pair) ∙ sym (nowhere x) ∙ ap (λ n. is_in n (e.line x)) same)
      (λ other old. are.waits p x w old unknown)

  pub ask_are : (q r : ℕ) → e.stack q ≡ None →
      AreClaims (record e { stack = put_at e.stack q (Some (just r)); last = q }) (record a { seeks = put_at a.seeks q (Some (r, false)) })
  ask_are q r none = record {
    known = are.known;
    held = are.held;
    seeks = λ p. put_both a.seeks e.stack q (Some (r, false)) (Some (just r)) p
        (λ x y. option_map (λ sought. sought.0) x ≡ option_and_then (sought_by e p) y)
        (λ same. ap (λ b. cond b None (Some r)) (sym (ap (λ n. is_owner e n r) (sym same) ∙ gone_owns_not q none r)))
        (λ other. are.seeks p);
    waits = λ p x w. new_waits q r p x w (gone_waits_not q none);
  }

  module _ (q : ℕ) (s : Stack) (live : e.stack q ≡ Some s) where
    -- what the query seeks
    seeks_is : option_map (λ sought. sought.0) (a.seeks q) ≡ sought_by e q s
    seeks_is = are.seeks q ∙ ap (option_and_then (sought_by e q)) live

    -- a query that owns its top frame's rule seeks none, and one that was passed it
    pub owner_seeks_none : s.top.owns ≡ true → a.seeks q ≡ None
    owner_seeks_none owns = seeks_none (a.seeks q) (seeks_is ∙
        ap (λ b. cond (b || is_owner e q s.top.rule) None (Some s.top.rule)) owns)

    pub passed_seeks_none : s.top.owns ≡ false → is_owner e q s.top.rule ≡ true → a.seeks q ≡ None
    passed_seeks_none seeks passed = seeks_none (a.seeks q) (seeks_is ∙
        (λ i. cond (seeks i || passed i) None (Some s.top.rule)))

    -- another one seeks its rule by a call of its own
    pub seeks_top : s.top.owns ≡ false → is_owner e q s.top.rule ≡ false → (w : Bool) × (a.seeks q ≡ Some (s.top.rule, w))
    seeks_top seeks other = seeks_some (a.seeks q) s.top.rule (seeks_is ∙
        (λ i. cond (seeks i || other i) None (Some s.top.rule)))

    -- an owner waits nowhere
    owner_waits_not : s.top.owns ≡ true → (r : ℕ) → is_in q (e.line r) ≡ false
    owner_waits_not owns r = by (is_in q (e.line r)) refl
      where
        by : (b : Bool) → is_in q (e.line r) ≡ b → b ≡ false
        by true at = let wait = sound.waits r q at in
            absurd (false≢true (sym wait.seeks ∙ sym (ap (λ u. u.top.owns) (some_same (sym live ∙ wait.is))) ∙ owns))
        by false at = refl

    pub push_are : (x : ℕ) → s.top.owns ≡ true → needs e.rules s.top ≡ Some x →
        AreClaims (with_stack e q (Some (record { top = seeking x; below = s.top ∷ s.below })))
        (record a { seeks = put_at a.seeks q (Some (x, false)) })
    push_are x owns need = record {
      known = are.known;
      held = are.held;
      seeks = λ p. put_both a.seeks e.stack q (Some (x, false)) (Some (record { top = seeking x; below = s.top ∷ s.below })) p
          (λ y z. option_map (λ sought. sought.0) y ≡ option_and_then (sought_by e p) z)
          (λ same. ap (λ b. cond b None (Some x)) (sym (ap (λ n. is_owner e n x) (sym same) ∙ unowned)))
          (λ other. are.seeks p);
      waits = λ p y w. new_waits q x p y w (owner_waits_not owns);
    }
      where
        unowned : is_owner e q x ≡ false
        unowned = not_this (e.owner x) q (λ owned.
            let own = sound.owners x q owned in
            let stack = sound.stacks q s live in
            let less : x < s.top.rule = (need_less e.rules sound.acyclic e.owner q s.top stack.top x need).1 in
            let more : s.top.rule ≤ x = stack_above e.rules sound.acyclic e.owner q s stack x
            (ap (λ u. list_any (λ f. f.rule == x) (u.top ∷ u.below)) (some_same (sym live ∙ own.is)) ∙ own.frame) in
            omega (arith, less, more))

    -- queries seek what they did where the owners of rules are the same for them
    same_sought : (after : Evaluator) (p : ℕ) → ((r : ℕ) → is_owner after p r ≡ is_owner e p r) → (x : Option Stack) →
        option_and_then (sought_by after p) x ≡ option_and_then (sought_by e p) x
    same_sought after p same None = refl
    same_sought after p same (Some t) = ap (λ b. cond (t.top.owns || b) None (Some t.top.rule)) (same t.top.rule)

    -- it owns the rule that it was passed
    pub own_are : s.top.owns ≡ false → e.owner s.top.rule ≡ Some q → AreClaims (owns_top e q s).1 a
    own_are seeks passed = subst (λ o. AreClaims (record (with_stack e q (Some (record s { top = record s.top { owns = true } }))) { owner = o }) a)
        (sym (put_same e.owner s.top.rule (Some q) passed))
        (record {
          known = are.known;
          held = are.held;
          seeks = λ p. put_holds e.stack q (Some (record s { top = record s.top { owns = true } })) p
              (λ z. option_map (λ sought. sought.0) (a.seeks p) ≡ option_and_then (sought_by e p) z)
              (λ same. ap (λ n. option_map (λ sought. sought.0) (a.seeks n)) (sym same) ∙
              ap (option_map (λ sought. sought.0)) (passed_seeks_none seeks (this_is (e.owner s.top.rule) q passed)))
              (λ other. are.seeks p);
          waits = are.waits;
        })

    -- it owns a rule that none did
    pub take_are : e.owner s.top.rule ≡ None →
        AreClaims (owns_top e q s).1 (record a { held = put_at a.held s.top.rule true; seeks = put_at a.seeks q None })
    take_are free = record {
      known = are.known;
      held = λ r. put_both a.held e.owner s.top.rule true (Some q) r (λ b o. b ≡ is_some o) (λ same. refl) (λ other. are.held r);
      seeks = λ p. put_both a.seeks e.stack q None (Some (record s { top = record s.top { owns = true } })) p
          (λ y z. option_map (λ sought. sought.0) y ≡ option_and_then (sought_by (owns_top e q s).1 p) z)
          (λ same. refl)
          (λ other. are.seeks p ∙ sym (same_sought (owns_top e q s).1 p (λ r.
          put_holds e.owner s.top.rule (Some q) r (λ o. option_map_or (λ n. n == p) o false ≡ is_owner e p r)
          (λ same. differ q p other ∙ sym (ap (λ o. option_map_or (λ n. n == p) o false) (ap e.owner (sym same) ∙ free)))
          (λ apart. refl)) (e.stack p)));
      waits = λ p r w at. put_cases a.seeks q None p (Some (r, w)) _ at
          (λ same none. absurd (none_some none)) (λ other old. are.waits p r w old);
    }

    -- it waits for its rule
    pub wait_are : (w : Bool) → a.seeks q ≡ Some (s.top.rule, w) →
        AreClaims (waits e q s.top.rule).1 (record a { seeks = put_at a.seeks q (Some (s.top.rule, true)) })
    wait_are w at = record {
      known = are.known;
      held = are.held;
      seeks = λ p. put_holds a.seeks q (Some (s.top.rule, true)) p
          (λ y. option_map (λ sought. sought.0) y ≡ option_and_then (sought_by e p) (e.stack p))
          (λ same. sym (sought_rule (a.seeks q) at) ∙ are.seeks q ∙ ap (λ n. option_and_then (sought_by e n) (e.stack n)) same)
          (λ other. are.seeks p);
      waits = λ p r u now unknown. put_cases a.seeks q (Some (s.top.rule, true)) p (Some (r, u)) _ now
          (λ same new. let pair = some_same new in
          sym (ap (λ t. t.1) pair) ∙ sym (joined_self q (e.line s.top.rule)) ∙
          ap (λ n. is_in n (joined (e.line s.top.rule) q)) same ∙
          ap (is_in p) (sym (put_here e.line s.top.rule (joined (e.line s.top.rule) q)) ∙
          ap (put_at e.line s.top.rule (joined (e.line s.top.rule) q)) (ap (λ t. t.0) pair)))
          (λ other old. are.waits p r u old unknown ∙
          put_holds e.line s.top.rule (joined (e.line s.top.rule) q) r (λ line. is_in p (e.line r) ≡ is_in p line)
          (λ same. ap (λ n. is_in p (e.line n)) (sym same) ∙ sym (joined_other p q (e.line s.top.rule) other)) (λ apart. refl));
    }

    -- what is left once its top frame came off: a frame that owns, or nothing
    off_seeks : (after : Evaluator) (v : ℕ) (below : List Frame) → LieBelow e.rules e.owner q s.top.rule below →
        None ≡ option_and_then (sought_by after q) (off below v).1
    off_seeks after v [] lie = refl
    off_seeks after v (f ∷ fs) lie = ap (λ b. cond (b || is_owner after q f.rule) None (Some f.rule)) (sym lie.0.owns)

    -- its top frame's rule was known
    pub found_are : (v : ℕ) → AreClaims (with_stack e q (off s.below v).1) (record a { seeks = put_at a.seeks q None })
    found_are v = record {
      known = are.known;
      held = are.held;
      seeks = λ p. put_both a.seeks e.stack q None (off s.below v).1 p
          (λ y z. option_map (λ sought. sought.0) y ≡ option_and_then (sought_by e p) z)
          (λ same. subst (λ n. None ≡ option_and_then (sought_by e n) (off s.below v).1) same
          (off_seeks e v s.below (sound.stacks q s live).below))
          (λ other. are.seeks p);
      waits = λ p r w at. put_cases a.seeks q None p (Some (r, w)) _ at
          (λ same none. absurd (none_some none)) (λ other old. are.waits p r w old);
    }

    -- its top frame's rule, which it owns, becomes known
    pub known_are : (v : ℕ) → s.top.owns ≡ true → e.owner s.top.rule ≡ Some q →
        AreClaims (with_stack (with_known e s.top.rule v) q (off s.below v).1)
        (record a { known = put_at a.known s.top.rule (Some v); held = put_at a.held s.top.rule false })
    known_are v owns owned = record {
      known = λ r. put_both a.known e.known s.top.rule (Some v) (Some v) r (λ x y. x ≡ y) (λ same. refl) (λ other. are.known r);
      held = λ r. put_both a.held e.owner s.top.rule false None r (λ b o. b ≡ is_some o) (λ same. refl) (λ other. are.held r);
      seeks = λ p. put_holds e.stack q (off s.below v).1 p
          (λ z. option_map (λ sought. sought.0) (a.seeks p) ≡ option_and_then (sought_by (with_known e s.top.rule v) p) z)
          (λ same. subst (λ n. option_map (λ sought. sought.0) (a.seeks n) ≡ option_and_then (sought_by (with_known e s.top.rule v) n) (off s.below v).1) same
          (ap (option_map (λ sought. sought.0)) (owner_seeks_none owns) ∙ off_seeks (with_known e s.top.rule v) v s.below (sound.stacks q s live).below))
          (λ other. are.seeks p ∙ sym (same_sought (with_known e s.top.rule v) p (λ r.
          put_holds e.owner s.top.rule None r (λ o. option_map_or (λ n. n == p) o false ≡ is_owner e p r)
          (λ same. sym (ap (λ o. option_map_or (λ n. n == p) o false) (ap e.owner (sym same) ∙ owned) ∙ differ q p other))
          (λ apart. refl)) (e.stack p)));
      waits = λ p r w at unknown. put_cases e.known s.top.rule (Some v) r None _ unknown
          (λ same some. absurd (none_some (sym some)))
          (λ apart none. are.waits p r w at none ∙ ap (is_in p) (sym (put_there e.line s.top.rule [] r apart)));
    }
