-- Evaluators stay sound.
use Rattle.std.proofs.Common.{◌≡◌, ◌≢◌, ◌⊎◌, inl, inr, ◌<◌, ◌+◌, ℕ, ◌==◌, Bool, true, false, cond, ◌||◌, List, [], ◌∷◌, drop, Option, Some, None, slice_get, refl, sym, ap, ◌∙◌, subst, arith}
use Rattle.std.proofs.lemmas.Bool.{eqb-true, eq-eqb, false≢true}
use Rattle.std.specs.List.{list_any}
use Rattle.std.specs.Option.{option_map_or}
use Rattle.moka_hist.specs.Finite.{put_at}
use Rattle.moka_evaluator.specs.Evaluator.{Evaluator, Stack, fresh, is_in, is_owner, without}
use Rattle.moka_evaluator.specs.Plain.{IsAcyclic, plain, rule_at, with_value}
use Rattle.moka_evaluator.specs.Sound.{IsOnce, IsSound, IsStack, LieBelow, Owns, WaitsFor, has_frame}
use Rattle.moka_evaluator.specs.Steps.{comes_off, joined, just, line_after, needs, owns_top, passed, seeking, waits, with_known, with_stack}
use Rattle.moka_evaluator.specs.declared.frames.Frame.{Frame}
use Rattle.moka_evaluator.specs.declared.rules.Rule.{Rule}
use Rattle.moka_evaluator.proofs.Basics.{differ, first_in, in_joined, in_rest, in_without, is_this, no_first, none_some, once_drop, once_joined, once_without, or_false, put_cases, put_here, put_holds, put_keeps, put_there, some_same, this_is}
use Rattle.moka_evaluator.proofs.Stacks.{below_kept, frame_handed, need_less, stack_kept}
use Rattle.moka_evaluator.proofs.Worths.{earlier_rule}

pub fresh_sound : (rules : List Rule) → IsAcyclic rules → IsSound (fresh rules)
fresh_sound rules acyclic = record {
  acyclic = acyclic;
  plain = λ r v e. absurd (none_some e);
  closed = λ r v e. refl;
  free = λ r e. refl;
  stacks = λ q s e. absurd (none_some e);
  owners = λ r q e. absurd (none_some e);
  waits = λ r q e. absurd (false≢true e);
  once = λ r. tt;
  first = refl;
  numbered = λ q above. refl;
}

-- a query isn't another one that is live
apart : (stack : ℕ → Option Stack) (p q : ℕ) (s : Stack) → stack p ≡ None → stack q ≡ Some s → p ≢ q
apart stack p q s none some same = none_some (sym none ∙ ap stack same ∙ some)

-- ---- a query is asked

pub ask_sound : (e : Evaluator) → IsSound e → (r : ℕ) (rule : Rule) → rule_at e.rules r ≡ Some rule →
    IsSound (record e { stack = put_at e.stack (e.last + 1) (Some (just r)); last = e.last + 1 })
ask_sound e sound r rule is = record {
  acyclic = sound.acyclic;
  plain = sound.plain;
  closed = sound.closed;
  free = sound.free;
  stacks = λ q s at. put_cases e.stack (e.last + 1) (Some (just r)) q (Some s) _ at
      (λ same new. subst (IsStack e.rules e.owner q) (some_same new) (record {
        top = record { rule = rule; is = is; owned = λ owns. absurd (false≢true owns); worth = tt };
        below = tt;
      }))
      (λ other old. sound.stacks q s old);
  owners = λ x q at. let was = sound.owners x q at in
      record { stack = was.stack; is = still q was.stack was.is; frame = was.frame };
  waits = λ x q at. let was = sound.waits x q at in
      record { stack = was.stack; is = still q was.stack was.is; rule = was.rule; seeks = was.seeks; other = was.other };
  once = sound.once;
  first = put_there e.stack (e.last + 1) (Some (just r)) 0 (λ same. omega (arith, same)) ∙ sound.first;
  numbered = λ q above. put_there e.stack (e.last + 1) (Some (just r)) q (λ same. omega (arith, above, same)) ∙
      sound.numbered q (omega (arith, above));
}
  where
    still : (q : ℕ) (s : Stack) → e.stack q ≡ Some s → put_at e.stack (e.last + 1) (Some (just r)) q ≡ Some s
    still q s at = put_there e.stack (e.last + 1) (Some (just r)) q
        (apart e.stack (e.last + 1) q s (sound.numbered (e.last + 1) (omega arith)) at) ∙ at

-- ---- turns

module _ (e : Evaluator) (sound : IsSound e) (q : ℕ) (s : Stack) (live : e.stack q ≡ Some s) where
  -- its stack is the one that it has
  its : (t : Stack) → e.stack q ≡ Some t → s ≡ t
  its t at = some_same (sym live ∙ at)

  -- no greater number is its
  unnumbered : (t : Option Stack) (p : ℕ) → e.last < p → put_at e.stack q t p ≡ None
  unnumbered t p above = put_there e.stack q t p
      (λ same. none_some (sym (sound.numbered p above) ∙ ap e.stack (sym same) ∙ live)) ∙ sound.numbered p above

  -- nor is 0
  unfirst : (t : Option Stack) → put_at e.stack q t 0 ≡ None
  unfirst t = put_there e.stack q t 0 (λ same. none_some (sym sound.first ∙ ap e.stack (sym same) ∙ live)) ∙ sound.first

  -- a query owns what it did, if the stack of this one has the frames that it had
  owns_still : (t : Stack) (x p : ℕ) → (has_frame s x ≡ true → has_frame t x ≡ true) → Owns e p x →
      (after : Evaluator) → ((k : ℕ) → after.stack k ≡ put_at e.stack q (Some t) k) → Owns after p x
  owns_still t x p keeps owns after is = by (q == p) refl
    where
      by : (b : Bool) → (q == p) ≡ b → Owns after p x
      by true same = let here : q ≡ p = eqb-true q p same in record {
        stack = t;
        is = is p ∙ ap (λ b. cond b (Some t) (e.stack p)) same;
        frame = keeps (ap (λ u. has_frame u x) (some_same (sym live ∙ ap e.stack here ∙ owns.is)) ∙ owns.frame);
      }
      by false other = record {
        stack = owns.stack;
        is = is p ∙ ap (λ b. cond b (Some t) (e.stack p)) other ∙ owns.is;
        frame = owns.frame;
      }

  -- another one waits for what it did
  waits_still : (t : Option Stack) (x p : ℕ) → q ≢ p → WaitsFor e p x → (after : Evaluator) →
      ((k : ℕ) → after.stack k ≡ put_at e.stack q t k) → is_owner after p x ≡ false → WaitsFor after p x
  waits_still t x p other was after is isnt = record {
    stack = was.stack;
    is = is p ∙ put_there e.stack q t p other ∙ was.is;
    rule = was.rule;
    seeks = was.seeks;
    other = isnt;
  }

  -- it owns the rule that it sought
  module _ (unknown : e.known s.top.rule ≡ None) (mine : (p : ℕ) → e.owner s.top.rule ≡ Some p → p ≡ q) where
    -- nobody waits for the rule of which it isn't the owner
    waits_elsewhere : (x p : ℕ) → is_in p (e.line x) ≡ true → q ≢ p
    waits_elsewhere x p at same = by (e.owner s.top.rule) refl
      where
        was : WaitsFor e p x
        was = sound.waits x p at

        here : s.top.rule ≡ x
        here = ap (λ u. u.top.rule) (some_same (sym live ∙ ap e.stack same ∙ was.is)) ∙ was.rule

        by : (o : Option ℕ) → e.owner s.top.rule ≡ o → ⊥
        by None none = false≢true (ap (is_in p) (sym (sound.free x (ap e.owner (sym here) ∙ none))) ∙ at)
        by (Some o) some = false≢true (sym was.other ∙ this_is (e.owner x) p
            (ap e.owner (sym here) ∙ some ∙ ap Some (mine o some ∙ same)))

    pub own_sound : IsSound (owns_top e q s).1
    own_sound = record {
      acyclic = sound.acyclic;
      plain = sound.plain;
      closed = λ x v at. put_there e.owner s.top.rule (Some q) x (λ same. none_some (sym unknown ∙ ap e.known same ∙ at)) ∙
          sound.closed x v at;
      free = λ x at. put_cases e.owner s.top.rule (Some q) x None _ at
          (λ same some. absurd (none_some (sym some))) (λ other none. sound.free x none);
      stacks = λ p t at. put_cases e.stack q (Some (record s { top = record s.top { owns = true } })) p (Some t) _ at
          (λ same is. subst (IsStack e.rules (put_at e.owner s.top.rule (Some q)) p) (some_same is)
          (subst (λ n. IsStack e.rules (put_at e.owner s.top.rule (Some q)) n (record s { top = record s.top { owns = true } })) same new))
          (λ other is. stack_kept e.rules sound.acyclic e.owner (put_at e.owner s.top.rule (Some q)) p t
          (λ x at. put_there e.owner s.top.rule (Some q) x (λ same. other (sym (mine p (ap e.owner same ∙ at)))) ∙ at)
          (sound.stacks p t is));
      owners = λ x p at. put_cases e.owner s.top.rule (Some q) x (Some p) _ at
          (λ same is. record {
            stack = record s { top = record s.top { owns = true } };
            is = ap (put_at e.stack q (Some (record s { top = record s.top { owns = true } }))) (sym (some_same is)) ∙
                put_here e.stack q (Some (record s { top = record s.top { owns = true } }));
            frame = ap (λ b. b || list_any (λ f. f.rule == x) s.below) (eq-eqb s.top.rule x same);
          })
          (λ other is. owns_still (record s { top = record s.top { owns = true } }) x p (λ had. had) (sound.owners x p is)
          (owns_top e q s).1 (λ k. refl));
      waits = λ x p at. waits_still (Some (record s { top = record s.top { owns = true } })) x p (waits_elsewhere x p at) (sound.waits x p at)
          (owns_top e q s).1 (λ k. refl)
          (put_holds e.owner s.top.rule (Some q) x (λ o. option_map_or (λ n. n == p) o false ≡ false)
          (λ same. differ q p (waits_elsewhere x p at)) (λ other. (sound.waits x p at).other));
      once = sound.once;
      first = unfirst (Some (record s { top = record s.top { owns = true } }));
      numbered = unnumbered (Some (record s { top = record s.top { owns = true } }));
    }
      where
        was : IsStack e.rules e.owner q s
        was = sound.stacks q s live

        new : IsStack e.rules (put_at e.owner s.top.rule (Some q)) q (record s { top = record s.top { owns = true } })
        new = record {
          top = record {
            rule = was.top.rule;
            is = was.top.is;
            owned = λ owns. put_here e.owner s.top.rule (Some q);
            worth = was.top.worth;
          };
          below = below_kept e.rules sound.acyclic e.owner (put_at e.owner s.top.rule (Some q)) q s.top.rule s.below
              (λ x less at. put_keeps e.owner s.top.rule (Some q) x at) was.below;
        }

  -- it waits for the rule that it seeks, which another one owns
  pub wait_sound : (o : ℕ) → s.top.owns ≡ false → e.owner s.top.rule ≡ Some o → (o == q) ≡ false →
      IsSound (waits e q s.top.rule).1
  wait_sound o seeks owned other = record {
    acyclic = sound.acyclic;
    plain = sound.plain;
    closed = sound.closed;
    free = λ x none. put_there e.line s.top.rule (joined (e.line s.top.rule) q) x
        (λ same. none_some (sym none ∙ ap e.owner (sym same) ∙ owned)) ∙ sound.free x none;
    stacks = sound.stacks;
    owners = λ x p at. let was = sound.owners x p at in record { stack = was.stack; is = was.is; frame = was.frame };
    waits = λ x p. put_holds e.line s.top.rule (joined (e.line s.top.rule) q) x (λ line. is_in p line ≡ true → WaitsFor (waits e q s.top.rule).1 p x)
        (λ same at. came x p same (in_joined p q (e.line s.top.rule) at))
        (λ elsewhere at. again x p (sound.waits x p at));
    once = λ x. put_holds e.line s.top.rule (joined (e.line s.top.rule) q) x IsOnce
        (λ same. once_joined q (e.line s.top.rule) (sound.once s.top.rule)) (λ elsewhere. sound.once x);
    first = sound.first;
    numbered = sound.numbered;
  }
    where
      again : (x p : ℕ) → WaitsFor e p x → WaitsFor (waits e q s.top.rule).1 p x
      again x p was = record { stack = was.stack; is = was.is; rule = was.rule; seeks = was.seeks; other = was.other }

      came : (x p : ℕ) → s.top.rule ≡ x → (is_in p (e.line s.top.rule) ≡ true) ⊎ (q ≡ p) → WaitsFor (waits e q s.top.rule).1 p x
      came x p same (inl at) = again x p (sound.waits x p (ap (λ n. is_in p (e.line n)) (sym same) ∙ at))
      came x p same (inr is) = record {
        stack = s;
        is = ap e.stack (sym is) ∙ live;
        rule = same;
        seeks = seeks;
        other = ap (λ n. is_owner e n x) (sym is) ∙ ap (is_owner e q) (sym same) ∙
            ap (λ n. option_map_or (λ p. p == q) n false) owned ∙ other;
      }

  -- it seeks an operand of the rule that it owns
  pub push_sound : (a : ℕ) → s.top.owns ≡ true → needs e.rules s.top ≡ Some a →
      IsSound (with_stack e q (Some (record { top = seeking a; below = s.top ∷ s.below })))
  push_sound a owns need = record {
    acyclic = sound.acyclic;
    plain = sound.plain;
    closed = sound.closed;
    free = sound.free;
    stacks = λ p t at. put_cases e.stack q (Some pushed) p (Some t) _ at
        (λ same is. subst (IsStack e.rules e.owner p) (some_same is) (subst (λ n. IsStack e.rules e.owner n pushed) same new))
        (λ other is. sound.stacks p t is);
    owners = λ x p at. owns_still pushed x p (λ had. or_also (a == x) (has_frame s x) had) (sound.owners x p at)
        (with_stack e q (Some pushed)) (λ k. refl);
    waits = λ x p at. waits_still (Some pushed) x p (elsewhere x p (sound.waits x p at)) (sound.waits x p at)
        (with_stack e q (Some pushed)) (λ k. refl) (sound.waits x p at).other;
    once = sound.once;
    first = unfirst (Some pushed);
    numbered = unnumbered (Some pushed);
  }
    where
      pushed : Stack
      pushed = record { top = seeking a; below = s.top ∷ s.below }

      or_also : (x y : Bool) → y ≡ true → (x || y) ≡ true
      or_also true y e = refl
      or_also false y e = e

      was : IsStack e.rules e.owner q s
      was = sound.stacks q s live

      less : (0 < a) × (a < s.top.rule)
      less = need_less e.rules sound.acyclic e.owner q s.top was.top a need

      is_rule : (other : Rule) × (rule_at e.rules a ≡ Some other)
      is_rule = earlier_rule e.rules a s.top.rule was.top.rule was.top.is less.0 less.1

      new : IsStack e.rules e.owner q pushed
      new = record {
        top = record { rule = is_rule.0; is = is_rule.1; owned = λ isnt. absurd (false≢true isnt); worth = tt };
        below = (record { frame = was.top; owns = owns; needs = need }, was.below);
      }

      elsewhere : (x p : ℕ) → WaitsFor e p x → q ≢ p
      elsewhere x p waits same = false≢true (sym waits.seeks ∙
          sym (ap (λ u. u.top.owns) (some_same (sym live ∙ ap e.stack same ∙ waits.is))) ∙ owns)

  -- the rule of its top frame becomes known, or is, and the frame comes off
  module _ (v : ℕ) (worth : v ≡ plain e.rules s.top.rule) (mine : (p : ℕ) → e.owner s.top.rule ≡ Some p → p ≡ q) where
    abbrev known_then : Evaluator
    known_then = with_known e s.top.rule v

    -- another rule is owned as before
    owner_else : (x : ℕ) (o : Option ℕ) → s.top.rule ≢ x → e.owner x ≡ o → known_then.owner x ≡ o
    owner_else x o other at = put_there e.owner s.top.rule None x other ∙ at

    -- the frames below
    left : (t : Option Stack) → ((u : Stack) → t ≡ Some u → IsStack e.rules known_then.owner q u) →
        ((x : ℕ) → s.top.rule ≢ x → list_any (λ f. f.rule == x) s.below ≡ true → (u : Stack) × ((t ≡ Some u) × (has_frame u x ≡ true))) →
        IsSound (with_stack known_then q t)
    left t stack frames = record {
      acyclic = sound.acyclic;
      plain = λ x w at. put_cases e.known s.top.rule (Some v) x (Some w) _ at
          (λ same is. sym (some_same is) ∙ worth ∙ ap (plain e.rules) same) (λ other is. sound.plain x w is);
      closed = λ x w at. put_cases e.known s.top.rule (Some v) x (Some w) _ at
          (λ same is. ap (put_at e.owner s.top.rule None) (sym same) ∙ put_here e.owner s.top.rule None)
          (λ other is. owner_else x None other (sound.closed x w is));
      free = λ x none. put_holds e.line s.top.rule [] x (λ line. line ≡ [])
          (λ same. refl) (λ other. sound.free x (sym (put_there e.owner s.top.rule None x other) ∙ none));
      stacks = λ p u at. put_cases e.stack q t p (Some u) _ at
          (λ same is. subst (λ n. IsStack e.rules known_then.owner n u) same (stack u is))
          (λ other is. stack_kept e.rules sound.acyclic e.owner known_then.owner p u
          (λ x at. owner_else x (Some p) (λ same. other (sym (mine p (ap e.owner same ∙ at)))) at) (sound.stacks p u is));
      owners = λ x p at. put_cases e.owner s.top.rule None x (Some p) _ at
          (λ same none. absurd (none_some none)) (λ other is. owns_after x p other (sound.owners x p is));
      waits = λ x p. put_holds e.line s.top.rule [] x (λ line. is_in p line ≡ true → WaitsFor (with_stack known_then q t) p x)
          (λ same isnt. absurd (false≢true isnt))
          (λ other at. let was = sound.waits x p at in
          waits_still t x p (λ same. other (ap (λ u. u.top.rule) (some_same (sym live ∙ ap e.stack same ∙ was.is)) ∙ was.rule)) was
          (with_stack known_then q t) (λ k. refl)
          (ap (λ o. option_map_or (λ n. n == p) o false) (put_there e.owner s.top.rule None x other) ∙ was.other));
      once = λ x. put_holds e.line s.top.rule [] x IsOnce (λ same. tt) (λ other. sound.once x);
      first = unfirst t;
      numbered = unnumbered t;
    }
      where
        owns_after : (x p : ℕ) → s.top.rule ≢ x → Owns e p x → Owns (with_stack known_then q t) p x
        owns_after x p other owns = by (q == p) refl
          where
            by : (b : Bool) → (q == p) ≡ b → Owns (with_stack known_then q t) p x
            by true same =
                let here : q ≡ p = eqb-true q p same in
                let had : has_frame s x ≡ true =
                ap (λ u. has_frame u x) (some_same (sym live ∙ ap e.stack here ∙ owns.is)) ∙ owns.frame in
                let found = frames x other (or_false (s.top.rule == x) (list_any (λ f. f.rule == x) s.below) had (differ s.top.rule x other)) in
                record {
                  stack = found.0;
                  is = ap (λ b. cond b t (e.stack p)) same ∙ found.1.0;
                  frame = found.1.1;
                }
            by false apart = record {
              stack = owns.stack;
              is = ap (λ b. cond b t (e.stack p)) apart ∙ owns.is;
              frame = owns.frame;
            }

    pub off_sound : (below : List Frame) → s.below ≡ below → IsSound (comes_off known_then q v below).1
    off_sound [] none = left None (λ u is. absurd (none_some is))
        (λ x other at. absurd (false≢true (sym (ap (list_any (λ f. f.rule == x)) none) ∙ at)))
    off_sound (f ∷ fs) some =
        let was = sound.stacks q s live in
        let lie = subst (LieBelow e.rules e.owner q s.top.rule) some was.below in
        let less : s.top.rule < f.rule = (need_less e.rules sound.acyclic e.owner q f lie.0.frame s.top.rule lie.0.needs).1 in
        left (Some (record { top = record f { operands = with_value f.operands v }; below = fs }))
        (λ u is. subst (IsStack e.rules known_then.owner q) (some_same is) (record {
          top = frame_handed e.rules sound.acyclic e.owner known_then.owner q s.top.rule v f lie.0 worth
              (owner_else f.rule (Some q) (λ same. omega (arith, less, same)));
          below = below_kept e.rules sound.acyclic e.owner known_then.owner q f.rule fs
              (λ x more. owner_else x (Some q) (λ same. omega (arith, less, more, same))) lie.1;
        }))
        (λ x other at. (
          record { top = record f { operands = with_value f.operands v }; below = fs },
          (refl, sym (ap (list_any (λ f. f.rule == x)) some) ∙ at),
        ))

-- ---- a query is dropped

module _ (e : Evaluator) (sound : IsSound e) (q : ℕ) (s : Stack) (live : e.stack q ≡ Some s) where
  abbrev after : Evaluator
  after = record (with_stack e q None) { owner = passed e q; line = line_after e q }

  -- a rule that it owns, or doesn't
  by_owner : (P : Option ℕ → List ℕ → Type 0) (x : ℕ) →
      (e.owner x ≡ Some q → P (slice_get (e.line x) 0) (drop 1 (e.line x))) →
      (is_owner e q x ≡ false → P (e.owner x) (without q (e.line x))) → P (passed e q x) (line_after e q x)
  by_owner P x own other = by (is_owner e q x) refl
    where
      by : (b : Bool) → is_owner e q x ≡ b →
          P (cond b (slice_get (e.line x) 0) (e.owner x)) (cond b (drop 1 (e.line x)) (without q (e.line x)))
      by true is = own (is_this (e.owner x) q is)
      by false is = other is

  -- another query's stack is as before
  still : (p : ℕ) (t : Stack) → q ≢ p → e.stack p ≡ Some t → after.stack p ≡ Some t
  still p t other at = put_there e.stack q None p other ∙ at

  -- another one than the first
  is_not : (first : Option ℕ) (p : ℕ) → first ≢ Some p → option_map_or (λ n. n == p) first false ≡ false
  is_not None p isnt = refl
  is_not (Some n) p isnt = differ n p (λ same. isnt (ap Some same))

  -- who waits is another one, where this one owns the rule
  first_other : (x p : ℕ) → e.owner x ≡ Some q → is_in p (e.line x) ≡ true → q ≢ p
  first_other x p owned at same =
      false≢true (sym (sound.waits x p at).other ∙ this_is (e.owner x) p (owned ∙ ap Some same))

  -- who doesn't own a rule is another one than who does
  not_it : (x p : ℕ) → is_owner e q x ≡ false → e.owner x ≡ Some p → q ≢ p
  not_it x p isnt at same = false≢true (sym isnt ∙ this_is (e.owner x) q (at ∙ ap Some (sym same)))

  pub drop_sound : IsSound after
  drop_sound = record {
    acyclic = sound.acyclic;
    plain = sound.plain;
    closed = λ x v at. by_owner (λ owner line. owner ≡ None) x
        (λ owned. absurd (none_some (sym (sound.closed x v at) ∙ owned))) (λ other. sound.closed x v at);
    free = λ x. by_owner (λ owner line. owner ≡ None → line ≡ []) x
        (λ owned none. no_first (e.line x) none) (λ other none. ap (without q) (sound.free x none));
    stacks = λ p t at. put_cases e.stack q None p (Some t) _ at
        (λ same none. absurd (none_some none))
        (λ other is. stack_kept e.rules sound.acyclic e.owner (passed e q) p t (keeps p other) (sound.stacks p t is));
    owners = λ x p. by_owner (λ owner line. owner ≡ Some p → Owns after p x) x
        (λ owned first. let at = first_in p (e.line x) first in let was = sound.waits x p at in record {
          stack = was.stack;
          is = still p was.stack (first_other x p owned at) was.is;
          frame = ap (λ b. b || list_any (λ f. f.rule == x) was.stack.below) (eq-eqb was.stack.top.rule x was.rule);
        })
        (λ other at. let was = sound.owners x p at in
        record { stack = was.stack; is = still p was.stack (not_it x p other at) was.is; frame = was.frame });
    waits = λ x p at.
        let left = by_owner (λ owner line. is_in p line ≡ true →
        (is_in p (e.line x) ≡ true) × ((q ≢ p) × (option_map_or (λ n. n == p) owner false ≡ false))) x
        (λ owned at. let rest = in_rest p (e.line x) (sound.once x) at in
        (rest.0, (first_other x p owned rest.0, is_not (slice_get (e.line x) 0) p rest.1)))
        (λ other at. let rest = in_without p q (e.line x) at in
        (rest.0, (λ same. rest.1 (sym same), (sound.waits x p rest.0).other))) at in
        waits_still e sound q s live None x p left.1.0 (sound.waits x p left.0) after (λ k. refl) left.1.1;
    once = λ x. by_owner (λ owner line. IsOnce line) x
        (λ owned. once_drop (e.line x) (sound.once x)) (λ other. once_without q (e.line x) (sound.once x));
    first = unfirst e sound q s live None;
    numbered = unnumbered e sound q s live None;
  }
    where
      keeps : (p : ℕ) → q ≢ p → (x : ℕ) → e.owner x ≡ Some p → passed e q x ≡ Some p
      keeps p other x at = by_owner (λ owner line. owner ≡ Some p) x
          (λ owned. absurd (other (some_same (sym owned ∙ at)))) (λ isnt. at)
