-- What dropping a query makes of a memo.
use Rattle.std.proofs.Common.{◌≡◌, ◌≢◌, ◌<◌, ◌+◌, ℕ, ◌==◌, not, Bool, true, false, cond, ◌||◌, List, [], ◌∷◌, drop, length, Option, Some, None, slice_get, refl, sym, ap, ◌∙◌, subst, arith}
use Rattle.std.proofs.lemmas.Bool.{eqb-true, eq-eqb, false≢true}
use Rattle.moka_hist.specs.Finite.{put_at}
use Rattle.moka_claims.specs.Claims.{IsClaims}
use Rattle.moka_claims.specs.declared.claims.Claims.{Claims}
use Rattle.moka_evaluator.specs.Claimed.{AreClaims, Claimed}
use Rattle.moka_evaluator.specs.Evaluator.{Evaluator, Stack, is_in, is_owner, live, without}
use Rattle.moka_evaluator.specs.Steps.{let_go, line_after, passed, with_stack}
use Rattle.moka_evaluator.specs.declared.frames.Frame.{Frame}
use Rattle.moka_evaluator.proofs.Basics.{differ, or_left, put_holds, put_there, some_same, this_is, is_this}
use Rattle.moka_evaluator.proofs.Dropping.{keep_are, leave_are}
use Rattle.moka_evaluator.proofs.Living.{live_less}
use Rattle.moka_evaluator.proofs.Sounding.{drop_sound}
use Rattle.moka_evaluator.proofs.Stacks.{below_above}
use Rattle.moka_stacks.specs.Places.{line_at, owner_at}
use Rattle.moka_stacks.specs.Queries.{count_of, stack_at}
use Rattle.moka_stacks.specs.declared.places.Places.{Places}
use Rattle.moka_stacks.specs.declared.queries.Queries.{Queries}
use Rattle.moka_memo.specs.Memo.{IsMemo}
use Rattle.moka_memo.specs.Passing.{IsLeaving, IsNext, IsPassing, framed}
use Rattle.moka_memo.specs.declared.memo.Memo.{Memo}
use Rattle.moka_memo.proofs.Becoming.{same_put}

-- a line without one who isn't in it
without_absent : (q : ℕ) (line : List ℕ) → is_in q line ≡ false → without q line ≡ line
without_absent q [] e = refl
without_absent q (x ∷ xs) e = by (without_absent q xs) (x == q) refl e
  where
    by : (is_in q xs ≡ false → without q xs ≡ xs) → (b : Bool) → (x == q) ≡ b → (b || is_in q xs) ≡ false →
        cond (not b) (x ∷ without q xs) (without q xs) ≡ x ∷ xs
    by rest true same e = absurd (false≢true (sym e))
    by rest false other e = ap (λ l. x ∷ l) (rest e)

-- claims of an evaluator with the same owners and lines
same_are : (e : Evaluator) (q : ℕ) (owner after : ℕ → Option ℕ) (line then : ℕ → List ℕ) (a : Claimed) → ((x : ℕ) → after x ≡ owner x) →
    ((x : ℕ) → then x ≡ line x) → AreClaims (let_go e q owner line) a → AreClaims (let_go e q after then) a
same_are e q owner after line then a same too are =
    subst (λ f. AreClaims (let_go e q f then) a) (λ i x. sym (same x) i)
    (subst (λ f. AreClaims (let_go e q owner f) a) (λ i x. sym (too x) i) are)

-- ---- a live query is taken out

pub removed_is : (old : Memo) (e : Evaluator) (is : IsMemo old e) (q : ℕ) (s : Stack) → e.stack q ≡ Some s → (queries : Queries) →
    ((p : ℕ) → stack_at queries p ≡ put_at (stack_at old.queries) q None p) → count_of queries + 1 ≡ count_of old.queries →
    IsLeaving (record old { queries = queries }) e q s
removed_is old e is q s live_at queries stacks count = record {
  unspent = is.unspent;
  sound = is.sound;
  live_at = live_at;
  rules = is.rules;
  owner = is.owner;
  line = is.line;
  stack = λ p. stacks p ∙ same_put (stack_at old.queries) e.stack is.stack q None p;
  last = is.last;
  live = fewer (count_of queries) (length (live (with_stack e q None))) (count ∙ is.live ∙ live_less e is.sound q s live_at);
  known = is.known;
  claimed = is.claimed;
  claims = is.claims;
  are = is.are;
}
  where
    fewer : (x y : ℕ) → x + 1 ≡ y + 1 → x ≡ y
    fewer x y e = omega (arith, e)

module _ (old : Memo) (e : Evaluator) (q : ℕ) (s : Stack) (is : IsLeaving old e q s) where
  -- a rule that it owns has a frame
  owned_framed : (x : ℕ) → framed (s.top ∷ s.below) x ≡ false → is_owner e q x ≡ false
  owned_framed x isnt = by (is_owner e q x) refl
    where
      by : (b : Bool) → is_owner e q x ≡ b → b ≡ false
      by true own =
          let owns = is.sound.owners x q (is_this (e.owner x) q own) in
          absurd (false≢true (sym isnt ∙ ap (λ u. framed (u.top ∷ u.below) x) (some_same (sym is.live_at ∙ owns.is)) ∙ owns.frame))
      by false e = refl

  -- it waits for no rule but that of its top frame
  waits_only : (x : ℕ) → s.top.rule ≢ x → is_in q (e.line x) ≡ false
  waits_only x other = by (is_in q (e.line x)) refl
    where
      by : (b : Bool) → is_in q (e.line x) ≡ b → b ≡ false
      by true at = let waits = is.sound.waits x q at in
          absurd (other (ap (λ u. u.top.rule) (some_same (sym is.live_at ∙ waits.is)) ∙ waits.rule))
      by false e = refl

  -- each rule that it owns is still to be passed
  pub owning_is : is.claimed.seeks q ≡ None → IsPassing old e q (s.top ∷ s.below)
  owning_is none = record {
    unspent = is.unspent;
    sound = is.sound;
    rules = is.rules;
    owner = λ x. is.owner x ∙ owner_so x (framed (s.top ∷ s.below) x) refl;
    line = λ x. is.line x ∙ line_so x (framed (s.top ∷ s.below) x) refl;
    stack = is.stack;
    last = is.last;
    live = is.live;
    known = is.known;
    claimed = is.claimed;
    claims = is.claims;
    are = same_are e q e.owner (owner_at old.places) e.line (line_at old.places) is.claimed is.owner is.line
        (keep_are e is.claimed is.are q none);
  }
    where
      owner_so : (x : ℕ) (b : Bool) → framed (s.top ∷ s.below) x ≡ b → e.owner x ≡ cond b (e.owner x) (passed e q x)
      owner_so x true framed_so = refl
      owner_so x false isnt = sym (ap (λ b. cond b (slice_get (e.line x) 0) (e.owner x)) (owned_framed x isnt))

      line_so : (x : ℕ) (b : Bool) → framed (s.top ∷ s.below) x ≡ b → e.line x ≡ cond b (e.line x) (line_after e q x)
      line_so x true framed_so = refl
      line_so x false isnt =
          sym (without_absent q (e.line x) (waits_only x (λ same. false≢true (sym isnt ∙ or_left (s.top.rule == x) _ (eq-eqb s.top.rule x same))))) ∙
          sym (ap (λ b. cond b (drop 1 (e.line x)) (without q (e.line x))) (owned_framed x isnt))

  -- it left the line of the rule that it sought
  pub seeking_is : is_owner e q s.top.rule ≡ false → (claims : Claims) →
      IsClaims claims (record is.claimed { seeks = put_at is.claimed.seeks q None }) → (places : Places) →
      ((x : ℕ) → owner_at places x ≡ owner_at old.places x) →
      ((x : ℕ) → line_at places x ≡ put_at (line_at old.places) s.top.rule (without q (line_at old.places s.top.rule)) x) →
      IsPassing (record old { claims = claims; places = places }) e q s.below
  seeking_is other claims left places owners lines = record {
    unspent = is.unspent;
    sound = is.sound;
    rules = is.rules;
    owner = λ x. owner_is x ∙ owner_so x (framed s.below x) refl;
    line = λ x. line_is x ∙ line_so x (framed s.below x) refl;
    stack = is.stack;
    last = is.last;
    live = is.live;
    known = is.known;
    claimed = record is.claimed { seeks = put_at is.claimed.seeks q None };
    claims = left;
    are = same_are e q e.owner (owner_at places) (put_at e.line s.top.rule (without q (e.line s.top.rule))) (line_at places)
        (record is.claimed { seeks = put_at is.claimed.seeks q None }) owner_is line_is (leave_are e is.claimed is.are q s.top.rule);
  }
    where
      owner_is : (x : ℕ) → owner_at places x ≡ e.owner x
      owner_is x = owners x ∙ is.owner x

      line_is : (x : ℕ) → line_at places x ≡ put_at e.line s.top.rule (without q (e.line s.top.rule)) x
      line_is x = lines x ∙ ap (λ l. put_at (line_at old.places) s.top.rule (without q l) x) (is.line s.top.rule) ∙
          same_put (line_at old.places) e.line is.line s.top.rule (without q (e.line s.top.rule)) x

      unowned : (x : ℕ) → framed s.below x ≡ false → is_owner e q x ≡ false
      unowned x isnt = by (s.top.rule == x) refl
        where
          by : (b : Bool) → (s.top.rule == x) ≡ b → is_owner e q x ≡ false
          by true same = ap (is_owner e q) (sym (eqb-true s.top.rule x same)) ∙ other
          by false apart = owned_framed x (ap (λ b. b || framed s.below x) apart ∙ isnt)

      owner_so : (x : ℕ) (b : Bool) → framed s.below x ≡ b → e.owner x ≡ cond b (e.owner x) (passed e q x)
      owner_so x true framed_so = refl
      owner_so x false isnt = sym (ap (λ b. cond b (slice_get (e.line x) 0) (e.owner x)) (unowned x isnt))

      above : (x : ℕ) → framed s.below x ≡ true → s.top.rule < x
      above x framed_so =
          below_above e.rules is.sound.acyclic e.owner q s.top.rule s.below (is.sound.stacks q s is.live_at).below x framed_so

      line_so : (x : ℕ) (b : Bool) → framed s.below x ≡ b →
          put_at e.line s.top.rule (without q (e.line s.top.rule)) x ≡ cond b (e.line x) (line_after e q x)
      line_so x true framed_so = put_there e.line s.top.rule (without q (e.line s.top.rule)) x (apart (above x framed_so))
        where
          apart : s.top.rule < x → s.top.rule ≢ x
          apart less same = omega (arith, less, same)
      line_so x false isnt =
          put_holds e.line s.top.rule (without q (e.line s.top.rule)) x (λ l. l ≡ without q (e.line x))
          (λ same. ap (λ n. without q (e.line n)) same)
          (λ apart. sym (without_absent q (e.line x) (waits_only x apart))) ∙
          sym (ap (λ b. cond b (drop 1 (e.line x)) (without q (e.line x))) (unowned x isnt))

-- ---- a rule is passed

module _ (old : Memo) (e : Evaluator) (q r : ℕ) (f : Frame) (fs : List Frame) (is : IsNext old e q r f fs) where
  -- it is as it was
  framed_now : framed (f ∷ fs) r ≡ true
  framed_now = or_left (f.rule == r) (framed fs r) (eq-eqb f.rule r is.rule)

  pub owner_now : owner_at old.places r ≡ Some q
  owner_now = is.passing.owner r ∙ ap (λ b. cond b (e.owner r) (passed e q r)) framed_now ∙ is.owned

  pub line_now : line_at old.places r ≡ e.line r
  line_now = is.passing.line r ∙ ap (λ b. cond b (e.line r) (line_after e q r)) framed_now

  -- what the others are is the same without the frame
  other_framed : (x : ℕ) → r ≢ x → framed (f ∷ fs) x ≡ framed fs x
  other_framed x other = ap (λ b. b || framed fs x) (differ f.rule x (λ same. other (sym is.rule ∙ same)))

  -- the rule was passed
  pub passed_is : (claimed : Claimed) (claims : Claims) → IsClaims claims claimed → (places : Places) →
      ((x : ℕ) → owner_at places x ≡ put_at (owner_at old.places) r (slice_get (line_at old.places r) 0) x) →
      ((x : ℕ) → line_at places x ≡ put_at (line_at old.places) r (drop 1 (line_at old.places r)) x) →
      AreClaims (let_go e q (put_at (owner_at old.places) r (slice_get (line_at old.places r) 0))
      (put_at (line_at old.places) r (drop 1 (line_at old.places r)))) claimed →
      IsPassing (record old { claims = claims; places = places }) e q fs
  passed_is claimed claims stands places owners lines are = record {
    unspent = is.passing.unspent;
    sound = is.passing.sound;
    rules = is.passing.rules;
    owner = λ x. owners x ∙ put_holds (owner_at old.places) r (slice_get (line_at old.places r) 0) x
        (λ o. o ≡ cond (framed fs x) (e.owner x) (passed e q x))
        (λ same. ap (λ l. slice_get l 0) line_now ∙
        sym (ap (λ b. cond b (slice_get (e.line r) 0) (e.owner r)) own) ∙ ap (passed e q) same ∙
        sym (ap (λ b. cond b (e.owner x) (passed e q x)) (ap (framed fs) (sym same) ∙ is.once)))
        (λ other. is.passing.owner x ∙ ap (λ b. cond b (e.owner x) (passed e q x)) (other_framed x other));
    line = λ x. lines x ∙ put_holds (line_at old.places) r (drop 1 (line_at old.places r)) x
        (λ l. l ≡ cond (framed fs x) (e.line x) (line_after e q x))
        (λ same. ap (drop 1) line_now ∙
        sym (ap (λ b. cond b (drop 1 (e.line r)) (without q (e.line r))) own) ∙ ap (line_after e q) same ∙
        sym (ap (λ b. cond b (e.line x) (line_after e q x)) (ap (framed fs) (sym same) ∙ is.once)))
        (λ other. is.passing.line x ∙ ap (λ b. cond b (e.line x) (line_after e q x)) (other_framed x other));
    stack = is.passing.stack;
    last = is.passing.last;
    live = is.passing.live;
    known = is.passing.known;
    claimed = claimed;
    claims = stands;
    are = same_are e q (put_at (owner_at old.places) r (slice_get (line_at old.places r) 0)) (owner_at places)
        (put_at (line_at old.places) r (drop 1 (line_at old.places r))) (line_at places) claimed owners lines are;
  }
    where
      own : is_owner e q r ≡ true
      own = this_is (e.owner r) q is.owned

-- ---- all were passed

pub dropped_is : (memo : Memo) (e : Evaluator) (q : ℕ) (s : Stack) → e.stack q ≡ Some s → IsPassing memo e q [] →
    IsMemo memo (let_go e q (passed e q) (line_after e q))
dropped_is memo e q s live_at is = record {
  unspent = is.unspent;
  sound = drop_sound e is.sound q s live_at;
  rules = is.rules;
  owner = is.owner;
  line = is.line;
  stack = is.stack;
  last = is.last;
  live = is.live;
  known = is.known;
  claimed = is.claimed;
  claims = is.claims;
  are = same_are e q (owner_at memo.places) (passed e q) (line_at memo.places) (line_after e q) is.claimed
      (λ x. sym (is.owner x)) (λ x. sym (is.line x)) is.are;
}
