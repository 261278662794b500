-- What a dropped query had is let go, frame by frame.
use Rattle.std.proofs.Common.{◌≡◌, ◌≢◌, ◌<◌, ◌+◌, ℕ, ◌==◌, Bool, true, false, cond, List, ◌∷◌, drop, Some, None, is_some, slice_get, refl, sym, ap, ◌∙◌, subst, arith}
use Rattle.std.proofs.lemmas.Bool.{false≢true}
use Rattle.std.specs.Option.{option_map, option_map_or}
use Rattle.moka_hist.specs.Finite.{put_at}
use Rattle.moka_claims.specs.Claims.{IsClaims}
use Rattle.moka_claims.specs.declared.claims.Claims.{Claims}
use Rattle.moka_evaluator.specs.Claimed.{AreClaims, IsUnawaited}
use Rattle.moka_evaluator.specs.Evaluator.{Evaluator, Stack, is_owner}
use Rattle.moka_evaluator.specs.Plain.{IsAcyclic}
use Rattle.moka_evaluator.specs.Sound.{LieBelow}
use Rattle.moka_evaluator.specs.Steps.{dropped, let_go, line_after, passed}
use Rattle.moka_evaluator.specs.declared.frames.Frame.{Frame}
use Rattle.moka_evaluator.proofs.Basics.{is_this, put_same, this_is}
use Rattle.moka_evaluator.proofs.Claiming.{owner_seeks_none, passed_seeks_none, seeks_top}
use Rattle.moka_evaluator.proofs.Dropping.{free_are, heir_are, heir_seeks, unawaited, was_held}
use Rattle.moka_evaluator.proofs.Stacks.{below_above}
use Rattle.moka_stacks.specs.Places.{line_at, owner_at}
use Rattle.moka_stacks.specs.Queries.{count_of, stack_at, stack_of}
use Rattle.moka_stacks.specs.declared.places.Places.{Places}
use Rattle.moka_stacks.specs.declared.queries.Queries.{Queries}
use Rattle.moka_stacks.specs.declared.queries.Query.{Query}
use Rattle.moka_memo.specs.Memo.{IsMemo}
use Rattle.moka_memo.specs.Passing.{IsLeaving, IsNext, IsPassing, framed}
use Rattle.moka_memo.specs.declared.memo.Memo.{Memo}
use Rattle.moka_memo.proofs.Dropping.{line_now, owner_now, owning_is, passed_is, removed_is}

-- the frames that lie below one of a rule are of other rules
not_below : (e : Evaluator) → IsAcyclic e.rules → (q r : ℕ) (fs : List Frame) → LieBelow e.rules e.owner q r fs → framed fs r ≡ false
not_below e acyclic q r fs lie = by (framed fs r) refl
  where
    by : (b : Bool) → framed fs r ≡ b → b ≡ false
    by true is = let less : r < r = below_above e.rules acyclic e.owner q r fs lie r is in absurd (omega (arith, less))
    by false is = refl

-- ---- the top frame

module _ (old : Memo) (e : Evaluator) (q : ℕ) (s : Stack) (is : IsLeaving old e q s) where
  -- the query owns the rule of its top frame, which is the next to be passed
  pub top_next : is_owner e q s.top.rule ≡ true → IsNext old e q s.top.rule s.top s.below
  top_next own = record {
    passing = owning_is old e q s is (by s.top.owns refl);
    rule = refl;
    owned = is_this (e.owner s.top.rule) q own;
    once = not_below e is.sound.acyclic q s.top.rule s.below (is.sound.stacks q s is.live_at).below;
  }
    where
      by : (b : Bool) → s.top.owns ≡ b → is.claimed.seeks q ≡ None
      by true owns = owner_seeks_none e is.sound is.claimed is.are q s is.live_at owns
      by false isnt = passed_seeks_none e is.sound is.claimed is.are q s is.live_at isnt own

  -- it doesn't own it, so it seeks that by a call of its own
  pub top_seeks : is_owner e q s.top.rule ≡ false → is_some (is.claimed.seeks q) ≡ true
  top_seeks other = by s.top.owns refl
    where
      by : (b : Bool) → s.top.owns ≡ b → is_some (is.claimed.seeks q) ≡ true
      by true owns = absurd (false≢true (sym other ∙
          this_is (e.owner s.top.rule) q ((is.sound.stacks q s is.live_at).top.owned owns)))
      by false isnt = ap is_some (seeks_top e is.sound is.claimed is.are q s is.live_at isnt other).1

-- ---- the frames below

pub below_next : (old : Memo) (e : Evaluator) (q k : ℕ) (f : Frame) (fs : List Frame) → IsPassing old e q (f ∷ fs) →
    LieBelow e.rules e.owner q k (f ∷ fs) → IsNext old e q f.rule f fs
below_next old e q k f fs passing lie = record {
  passing = passing;
  rule = refl;
  owned = lie.0.frame.owned lie.0.owns;
  once = not_below e passing.sound.acyclic q f.rule fs lie.1;
}

-- some frames are still to be passed
abbrev pub StillPassing : Memo → Evaluator → ℕ → List Frame → Type 0
StillPassing memo e q fs = (k : ℕ) × IsPassing memo e q fs × LieBelow e.rules e.owner q k fs

-- ---- a rule

module _ (old : Memo) (e : Evaluator) (q r : ℕ) (f : Frame) (fs : List Frame) (is : IsNext old e q r f fs) where
  pub its_heir_seeks : (h : ℕ) → slice_get (line_at old.places r) 0 ≡ Some h → is_some (is.passing.claimed.seeks h) ≡ true
  its_heir_seeks h first =
      heir_seeks e is.passing.sound q (owner_at old.places) (line_at old.places) is.passing.claimed is.passing.are r
      (owner_now old e q r f fs is) is.owned (line_now old e q r f fs is) h first

  pub heir_is : (h : ℕ) → slice_get (line_at old.places r) 0 ≡ Some h → (claims : Claims) →
      IsClaims claims (record is.passing.claimed { seeks = put_at is.passing.claimed.seeks h None }) → (places : Places) →
      ((x : ℕ) → owner_at places x ≡ put_at (owner_at old.places) r (Some h) x) →
      ((x : ℕ) → line_at places x ≡ put_at (line_at old.places) r (drop 1 (line_at old.places r)) x) →
      IsPassing (record old { claims = claims; places = places }) e q fs
  heir_is h first claims left places owners lines =
      passed_is old e q r f fs is (record is.passing.claimed { seeks = put_at is.passing.claimed.seeks h None }) claims left places
      (λ x. owners x ∙ ap (λ o. put_at (owner_at old.places) r o x) (sym first)) lines
      (subst (λ o. AreClaims (let_go e q (put_at (owner_at old.places) r o) (put_at (line_at old.places) r (drop 1 (line_at old.places r))))
      (record is.passing.claimed { seeks = put_at is.passing.claimed.seeks h None })) (sym first)
      (heir_are e is.passing.sound q (owner_at old.places) (line_at old.places) is.passing.claimed is.passing.are r
      (owner_now old e q r f fs is) is.owned (line_now old e q r f fs is) h first))

  pub its_held : slice_get (line_at old.places r) 0 ≡ None → is.passing.claimed.held r ≡ true
  its_held none =
      was_held e is.passing.sound q (owner_at old.places) (line_at old.places) is.passing.claimed is.passing.are r
      (owner_now old e q r f fs is) is.owned (line_now old e q r f fs is) none

  pub its_unawaited : slice_get (line_at old.places r) 0 ≡ None → IsUnawaited is.passing.claimed r
  its_unawaited none =
      unawaited e is.passing.sound q (owner_at old.places) (line_at old.places) is.passing.claimed is.passing.are r
      (owner_now old e q r f fs is) is.owned (line_now old e q r f fs is) none

  pub freed_is : slice_get (line_at old.places r) 0 ≡ None → (claims : Claims) →
      IsClaims claims (record is.passing.claimed { held = put_at is.passing.claimed.held r false }) → (places : Places) →
      ((x : ℕ) → owner_at places x ≡ put_at (owner_at old.places) r None x) →
      ((x : ℕ) → line_at places x ≡ put_at (line_at old.places) r (drop 1 (line_at old.places r)) x) →
      IsPassing (record old { claims = claims; places = places }) e q fs
  freed_is none claims freed places owners lines =
      passed_is old e q r f fs is (record is.passing.claimed { held = put_at is.passing.claimed.held r false }) claims freed places
      (λ x. owners x ∙ ap (λ o. put_at (owner_at old.places) r o x) (sym none)) lines
      (subst (λ o. AreClaims (let_go e q (put_at (owner_at old.places) r o) (put_at (line_at old.places) r (drop 1 (line_at old.places r))))
      (record is.passing.claimed { held = put_at is.passing.claimed.held r false })) (sym none)
      (free_are e is.passing.sound q (owner_at old.places) (line_at old.places) is.passing.claimed is.passing.are r
      (owner_now old e q r f fs is) is.owned (line_now old e q r f fs is) none))

-- who owns the rule of the top frame is as it is kept
pub owns_so : (old : Memo) (e : Evaluator) (q : ℕ) (s : Stack) → IsLeaving old e q s → (top : Frame) → s.top ≡ top →
    is_owner e q s.top.rule ≡ option_map_or (λ o. o == q) (owner_at old.places top.rule) false
owns_so old e q s is top same =
    ap (λ o. option_map_or (λ n. n == q) o false) (sym (is.owner s.top.rule)) ∙
    ap (λ f. option_map_or (λ n. n == q) (owner_at old.places f.rule) false) same

-- ---- a query is dropped

-- it was live, and is taken out
pub leaves : (old : Memo) (e : Evaluator) → IsMemo old e → (q : ℕ) (left : Query) → option_map stack_of (Some left) ≡ stack_at old.queries q →
    (queries : Queries) → ((p : ℕ) → stack_at queries p ≡ put_at (stack_at old.queries) q None p) → count_of queries + 1 ≡ count_of old.queries →
    IsLeaving (record old { queries = queries }) e q (stack_of left)
leaves old e is q left found queries stacks count =
    removed_is old e is q (stack_of left) (sym (found ∙ is.stack q)) queries stacks count

pub drops : (new : Memo) (e : Evaluator) (q : ℕ) (s : Stack) → e.stack q ≡ Some s → IsMemo new (let_go e q (passed e q) (line_after e q)) →
    (true ≡ (dropped e q).0) × IsMemo new (dropped e q).1
drops new e q s at is =
    let so : dropped e q ≡ (true, let_go e q (passed e q) (line_after e q)) =
    ap (λ x. cond {A = Bool × Evaluator} (is_some x) (true, let_go e q (passed e q) (line_after e q)) (false, e)) at in
    (sym (ap (λ x. x.0) so), subst (λ x. IsMemo new x.1) (sym so) is)

-- no such query was live
pub drops_none : (old : Memo) (e : Evaluator) → IsMemo old e → (q : ℕ) → None ≡ stack_at old.queries q → (queries : Queries) →
    ((p : ℕ) → stack_at queries p ≡ put_at (stack_at old.queries) q None p) → count_of queries + 0 ≡ count_of old.queries →
    (false ≡ (dropped e q).0) × IsMemo (record old { queries = queries }) (dropped e q).1
drops_none old e is q found queries stacks count =
    let none : e.stack q ≡ None = sym (found ∙ is.stack q) in
    let so : dropped e q ≡ (false, e) =
    ap (λ x. cond {A = Bool × Evaluator} (is_some x) (true, let_go e q (passed e q) (line_after e q)) (false, e)) none in (
      sym (ap (λ x. x.0) so),
      subst (λ x. IsMemo (record old { queries = queries }) x.1) (sym so) (record {
        unspent = is.unspent;
        sound = is.sound;
        rules = is.rules;
        owner = is.owner;
        line = is.line;
        stack = λ p. stacks p ∙ ap (λ f. f p) (put_same (stack_at old.queries) q None (sym found)) ∙ is.stack p;
        last = is.last;
        live = same_count (count_of queries) (count_of old.queries) count ∙ is.live;
        known = is.known;
        claimed = is.claimed;
        claims = is.claims;
        are = is.are;
      }),
    )
  where
    same_count : (x y : ℕ) → x + 0 ≡ y → x ≡ y
    same_count x y e = omega (arith, e)
