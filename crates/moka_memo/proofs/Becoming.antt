-- What the moves of a memo make of it.
use Rattle.std.proofs.Common.{◌≡◌, ◌+◌, ℕ, ◌==◌, Bool, true, false, cond, [], ◌∷◌, length, Option, Some, None, is_some, refl, sym, ap, ◌∙◌, subst, arith}
use Rattle.moka_hist.specs.Finite.{put_at}
use Rattle.moka_claims.specs.Claims.{IsClaims}
use Rattle.moka_claims.specs.declared.claims.Claims.{Claims}
use Rattle.moka_evaluator.specs.Evaluator.{Evaluator, Stack, live}
use Rattle.moka_evaluator.specs.Plain.{rule_at}
use Rattle.moka_evaluator.specs.Sound.{IsFrame, IsSound}
use Rattle.moka_evaluator.specs.Steps.{comes_off, joined, just, needs, off, owns_top, seeking, waits, with_known, with_stack, worked_out}
use Rattle.moka_evaluator.specs.declared.rules.Rule.{Rule}
use Rattle.moka_evaluator.proofs.Basics.{none_some, put_same, some_same}
use Rattle.moka_evaluator.proofs.Calling.{known_again}
use Rattle.moka_evaluator.proofs.Claiming.{ask_are, found_are, known_are, own_are, push_are, take_are, wait_are}
use Rattle.moka_evaluator.proofs.Living.{known_more, live_more, live_off, live_same}
use Rattle.moka_evaluator.proofs.Sounding.{ask_sound, off_sound, own_sound, push_sound, wait_sound}
use Rattle.moka_evaluator.proofs.Stacks.{worked_plain}
use Rattle.moka_stacks.specs.Places.{line_at, owner_at}
use Rattle.moka_stacks.specs.Queries.{count_of, stack_at}
use Rattle.moka_stacks.specs.declared.places.Places.{Places}
use Rattle.moka_stacks.specs.declared.queries.Queries.{Queries}
use Rattle.moka_memo.specs.Memo.{IsMemo}
use Rattle.moka_memo.specs.declared.memo.Memo.{Memo}

-- the same put at one number of two maps that are one
pub same_put : {A : Type 0} (f g : ℕ → A) → ((k : ℕ) → f k ≡ g k) → (n : ℕ) (v : A) (k : ℕ) → put_at f n v k ≡ put_at g n v k
same_put f g same n v k = λ i. cond (n == k) v (same k i)

fewer : (x y z n : ℕ) → x + n ≡ z → y + n ≡ z → x ≡ y
fewer x y z n a b = omega (arith, a, b)

module _ (old : Memo) (e : Evaluator) (is : IsMemo old e) where
  -- a query was added
  pub add_is : (r n : ℕ) (rule : Rule) → rule_at e.rules r ≡ Some rule → n ≡ e.last + 1 → (claims : Claims) →
      IsClaims claims (record is.claimed { seeks = put_at is.claimed.seeks n (Some (r, false)) }) → (queries : Queries) →
      ((p : ℕ) → stack_at queries p ≡ put_at (stack_at old.queries) n (Some (just r)) p) → count_of queries ≡ count_of old.queries + 1 →
      IsMemo (record old { claims = claims; queries = queries; last = n })
      (record e { stack = put_at e.stack (e.last + 1) (Some (just r)); last = e.last + 1 })
  add_is r n rule there next claims seeks queries stacks count = record {
    unspent = is.unspent;
    sound = ask_sound e is.sound r rule there;
    rules = is.rules;
    owner = is.owner;
    line = is.line;
    stack = λ p. stacks p ∙ same_put (stack_at old.queries) e.stack is.stack n (Some (just r)) p ∙
        ap (λ k. put_at e.stack k (Some (just r)) p) next;
    last = next;
    live = count ∙ ap (λ k. k + 1) is.live ∙ sym (live_more e is.sound r);
    known = is.known;
    claimed = record is.claimed { seeks = put_at is.claimed.seeks (e.last + 1) (Some (r, false)) };
    claims = subst (λ k. IsClaims claims (record is.claimed { seeks = put_at is.claimed.seeks k (Some (r, false)) })) next seeks;
    are = ask_are e is.sound is.claimed is.are (e.last + 1) r (is.sound.numbered (e.last + 1) (omega arith));
  }

  module _ (q : ℕ) (s : Stack) (live_at : e.stack q ≡ Some s) where
    -- its stack is as it is kept
    kept_at : stack_at old.queries q ≡ Some s
    kept_at = is.stack q ∙ live_at

    -- its top frame is one of its rules
    top : IsFrame e.rules e.owner q s.top
    top = (is.sound.stacks q s live_at).top

    -- a rule that is owned isn't known
    pub owned_unknown : (r o : ℕ) → e.owner r ≡ Some o → e.known r ≡ None
    owned_unknown r o owned = by (e.known r) refl
      where
        by : (x : Option ℕ) → e.known r ≡ x → e.known r ≡ None
        by None is_none = is_none
        by (Some v) known = absurd (none_some (sym (is.sound.closed r v known) ∙ owned))

    -- a frame was put on
    pub put_on_is : (x : ℕ) → s.top.owns ≡ true → needs e.rules s.top ≡ Some x → (claims : Claims) →
        IsClaims claims (record is.claimed { seeks = put_at is.claimed.seeks q (Some (x, false)) }) → (queries : Queries) →
        ((t : Stack) → stack_at old.queries q ≡ Some t → (p : ℕ) →
        stack_at queries p ≡ put_at (stack_at old.queries) q (Some (record { top = seeking x; below = t.top ∷ t.below })) p) →
        count_of queries ≡ count_of old.queries →
        IsMemo (record old { claims = claims; queries = queries })
        (with_stack e q (Some (record { top = seeking x; below = s.top ∷ s.below })))
    put_on_is x owns need claims seeks queries stacks count = record {
      unspent = is.unspent;
      sound = push_sound e is.sound q s live_at x owns need;
      rules = is.rules;
      owner = is.owner;
      line = is.line;
      stack = λ p. stacks s kept_at p ∙ same_put (stack_at old.queries) e.stack is.stack q
          (Some (record { top = seeking x; below = s.top ∷ s.below })) p;
      last = is.last;
      live = count ∙ is.live ∙ sym (live_same e is.sound q s live_at (record { top = seeking x; below = s.top ∷ s.below }));
      known = is.known;
      claimed = record is.claimed { seeks = put_at is.claimed.seeks q (Some (x, false)) };
      claims = seeks;
      are = push_are e is.sound is.claimed is.are q s live_at x owns need;
    }

    -- the query owns the rule of its top frame, which it was passed
    pub own_is : s.top.owns ≡ false → e.owner s.top.rule ≡ Some q → e.known s.top.rule ≡ None → (queries : Queries) →
        ((t : Stack) → stack_at old.queries q ≡ Some t → (p : ℕ) →
        stack_at queries p ≡ put_at (stack_at old.queries) q (Some (record t { top = record t.top { owns = true } })) p) →
        count_of queries ≡ count_of old.queries → IsMemo (record old { queries = queries }) (owns_top e q s).1
    own_is seeks passed unknown queries stacks count = record {
      unspent = is.unspent;
      sound = own_sound e is.sound q s live_at unknown (λ p owned. some_same (sym owned ∙ passed));
      rules = is.rules;
      owner = λ r. is.owner r ∙ ap (λ f. f r) (sym (put_same e.owner s.top.rule (Some q) passed));
      line = is.line;
      stack = λ p. stacks s kept_at p ∙ same_put (stack_at old.queries) e.stack is.stack q
          (Some (record s { top = record s.top { owns = true } })) p;
      last = is.last;
      live = count ∙ is.live ∙ sym (live_same e is.sound q s live_at (record s { top = record s.top { owns = true } }));
      known = is.known;
      claimed = is.claimed;
      claims = is.claims;
      are = own_are e is.sound is.claimed is.are q s live_at seeks passed;
    }

    -- the query owns the rule of its top frame, which none did
    pub take_is : e.owner s.top.rule ≡ None → e.known s.top.rule ≡ None → (claims : Claims) →
        IsClaims claims (record is.claimed { held = put_at is.claimed.held s.top.rule true; seeks = put_at is.claimed.seeks q None }) →
        (places : Places) → ((r : ℕ) → owner_at places r ≡ put_at (owner_at old.places) s.top.rule (Some q) r) →
        ((r : ℕ) → line_at places r ≡ put_at (line_at old.places) s.top.rule [] r) → (queries : Queries) →
        ((t : Stack) → stack_at old.queries q ≡ Some t → (p : ℕ) →
        stack_at queries p ≡ put_at (stack_at old.queries) q (Some (record t { top = record t.top { owns = true } })) p) →
        count_of queries ≡ count_of old.queries →
        IsMemo (record old { claims = claims; places = places; queries = queries }) (owns_top e q s).1
    take_is free unknown claims holds places owners lines queries stacks count = record {
      unspent = is.unspent;
      sound = own_sound e is.sound q s live_at unknown (λ p owned. absurd (none_some (sym free ∙ owned)));
      rules = is.rules;
      owner = λ r. owners r ∙ same_put (owner_at old.places) e.owner is.owner s.top.rule (Some q) r;
      line = λ r. lines r ∙ same_put (line_at old.places) e.line is.line s.top.rule [] r ∙
          ap (λ f. f r) (put_same e.line s.top.rule [] (is.sound.free s.top.rule free));
      stack = λ p. stacks s kept_at p ∙ same_put (stack_at old.queries) e.stack is.stack q
          (Some (record s { top = record s.top { owns = true } })) p;
      last = is.last;
      live = count ∙ is.live ∙ sym (live_same e is.sound q s live_at (record s { top = record s.top { owns = true } }));
      known = is.known;
      claimed = record is.claimed { held = put_at is.claimed.held s.top.rule true; seeks = put_at is.claimed.seeks q None };
      claims = holds;
      are = take_are e is.sound is.claimed is.are q s live_at free;
    }

    -- the query waits for the rule of its top frame
    pub wait_is : (o : ℕ) (w : Bool) → s.top.owns ≡ false → e.owner s.top.rule ≡ Some o → (o == q) ≡ false →
        is.claimed.seeks q ≡ Some (s.top.rule, w) → (claims : Claims) →
        IsClaims claims (record is.claimed { seeks = put_at is.claimed.seeks q (Some (s.top.rule, true)) }) →
        (places : Places) → ((r : ℕ) → owner_at places r ≡ owner_at old.places r) →
        ((r : ℕ) → line_at places r ≡ put_at (line_at old.places) s.top.rule (joined (line_at old.places s.top.rule) q) r) →
        IsMemo (record old { claims = claims; places = places }) (waits e q s.top.rule).1
    wait_is o w seeks owned other at claims waiting places owners lines = record {
      unspent = is.unspent;
      sound = wait_sound e is.sound q s live_at o seeks owned other;
      rules = is.rules;
      owner = λ r. owners r ∙ is.owner r;
      line = λ r. lines r ∙ ap (λ line. put_at (line_at old.places) s.top.rule (joined line q) r) (is.line s.top.rule) ∙
          same_put (line_at old.places) e.line is.line s.top.rule (joined (e.line s.top.rule) q) r;
      stack = is.stack;
      last = is.last;
      live = is.live;
      known = is.known;
      claimed = record is.claimed { seeks = put_at is.claimed.seeks q (Some (s.top.rule, true)) };
      claims = waiting;
      are = wait_are e is.sound is.claimed is.are q s live_at w at;
    }

    -- its top frame came off, whose rule is known
    pub found_is : (v : ℕ) → e.known s.top.rule ≡ Some v → (claims : Claims) →
        IsClaims claims (record is.claimed { seeks = put_at is.claimed.seeks q None }) → (queries : Queries) →
        ((t : Stack) → stack_at old.queries q ≡ Some t → (p : ℕ) →
        stack_at queries p ≡ put_at (stack_at old.queries) q (off t.below v).1 p) →
        ((t : Stack) → stack_at old.queries q ≡ Some t →
        count_of queries + cond (is_some (off t.below v).1) 0 1 ≡ count_of old.queries) →
        IsMemo (record old { claims = claims; queries = queries }) (comes_off e q v s.below).1
    found_is v known claims left queries stacks count = record {
      unspent = is.unspent;
      sound = subst (λ d. IsSound (comes_off d q v s.below).1) (known_again e is.sound q s live_at v known)
          (off_sound e is.sound q s live_at v (is.sound.plain s.top.rule v known)
          (λ p owned. absurd (none_some (sym (is.sound.closed s.top.rule v known) ∙ owned))) s.below refl);
      rules = is.rules;
      owner = is.owner;
      line = is.line;
      stack = λ p. stacks s kept_at p ∙ same_put (stack_at old.queries) e.stack is.stack q (off s.below v).1 p;
      last = is.last;
      live = fewer (count_of queries) _ (length (live e)) (cond (is_some (off s.below v).1) 0 1) (count s kept_at ∙ is.live) (live_off e is.sound q s live_at (off s.below v).1);
      known = is.known;
      claimed = record is.claimed { seeks = put_at is.claimed.seeks q None };
      claims = left;
      are = found_are e is.sound is.claimed is.are q s live_at v;
    }

    -- the rule of its top frame became known, and that came off
    pub known_is : (rule : Rule) → rule_at e.rules s.top.rule ≡ Some rule → s.top.owns ≡ true → needs e.rules s.top ≡ None →
        (v k : ℕ) → v ≡ worked_out e.rules s.top → k ≡ old.known + 1 → (claims : Claims) →
        IsClaims claims (record is.claimed {
          known = put_at is.claimed.known s.top.rule (Some v);
          held = put_at is.claimed.held s.top.rule false;
        }) →
        (places : Places) → ((r : ℕ) → owner_at places r ≡ put_at (owner_at old.places) s.top.rule None r) →
        ((r : ℕ) → line_at places r ≡ put_at (line_at old.places) s.top.rule [] r) → (queries : Queries) →
        ((t : Stack) → stack_at old.queries q ≡ Some t → (p : ℕ) →
        stack_at queries p ≡ put_at (stack_at old.queries) q (off t.below v).1 p) →
        ((t : Stack) → stack_at old.queries q ≡ Some t →
        count_of queries + cond (is_some (off t.below v).1) 0 1 ≡ count_of old.queries) →
        IsMemo (record old { claims = claims; places = places; queries = queries; known = k })
        (comes_off (with_known e s.top.rule v) q v s.below).1
    known_is rule there owns none v k worth counted claims settles places owners lines queries stacks count = record {
      unspent = is.unspent;
      sound = off_sound e is.sound q s live_at v (worth ∙ worked_plain e.rules is.sound.acyclic e.owner q s.top top none)
          (λ p owned. some_same (sym owned ∙ top.owned owns)) s.below refl;
      rules = is.rules;
      owner = λ r. owners r ∙ same_put (owner_at old.places) e.owner is.owner s.top.rule None r;
      line = λ r. lines r ∙ same_put (line_at old.places) e.line is.line s.top.rule [] r;
      stack = λ p. stacks s kept_at p ∙ same_put (stack_at old.queries) e.stack is.stack q (off s.below v).1 p;
      last = is.last;
      live = fewer (count_of queries) _ (length (live e)) (cond (is_some (off s.below v).1) 0 1) (count s kept_at ∙ is.live) (live_off e is.sound q s live_at (off s.below v).1);
      known = counted ∙ ap (λ n. n + 1) is.known ∙ sym (known_more e s.top.rule v rule there (owned_unknown s.top.rule q (top.owned owns)));
      claimed = record is.claimed {
        known = put_at is.claimed.known s.top.rule (Some v);
        held = put_at is.claimed.held s.top.rule false;
      };
      claims = settles;
      are = known_are e is.sound is.claimed is.are q s live_at v owns (top.owned owns);
    }
