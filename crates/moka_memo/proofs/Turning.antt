-- Turns: what is known of a top frame, and what the moves reply.
use Rattle.std.proofs.Common.{◌≡◌, ◌<◌, ◌≤◌, ◌+◌, ℕ, true, false, cond, [], length, Option, Some, None, is_some, refl, sym, ap, ◌∙◌, subst, arith}
use Rattle.std.specs.Option.{option_and_then, option_map, option_map_or}
use Rattle.moka_hist.specs.Finite.{put_at}
use Rattle.moka_claims.specs.Claims.{IsClaims}
use Rattle.moka_claims.specs.declared.claims.Claims.{Claims}
use Rattle.moka_evaluator.specs.Evaluator.{Evaluator, Stack, known_in}
use Rattle.moka_evaluator.specs.Plain.{next_operand, rule_at, value_from}
use Rattle.moka_evaluator.specs.Sound.{IsFrame}
use Rattle.moka_evaluator.specs.Steps.{comes_off, needs, off, turned, turned_at, with_known, worked_out, works}
use Rattle.moka_evaluator.specs.declared.frames.Frame.{Frame}
use Rattle.moka_evaluator.specs.declared.rules.Rule.{Rule}
use Rattle.moka_evaluator.specs.declared.turns.Turned.{Turned}
use Rattle.moka_evaluator.specs.declared.turns.Turned.TheVariants as turn
use Rattle.moka_evaluator.proofs.Basics.{none_some}
use Rattle.moka_evaluator.proofs.Claiming.{owner_seeks_none}
use Rattle.moka_evaluator.proofs.Counting.{count_most}
use Rattle.moka_evaluator.proofs.Living.{known_more}
use Rattle.moka_stacks.specs.Places.{line_at, owner_at}
use Rattle.moka_stacks.specs.Queries.{count_of, stack_at}
use Rattle.moka_stacks.specs.declared.places.Places.{Places}
use Rattle.moka_stacks.specs.declared.queries.Queries.{Queries}
use Rattle.moka_memo.specs.Memo.{HasTop, IsMemo, Turns}
use Rattle.moka_memo.specs.declared.memo.Memo.{Memo}
use Rattle.moka_memo.proofs.Becoming.{known_is}
use Rattle.moka_memo.proofs.Tops.{with_top, without_top}

module _ (memo : Memo) (e : Evaluator) (is : IsMemo memo e) (q : ℕ) where
  pub has_top : (top : Frame) → Some top ≡ option_map (λ s. s.top) (stack_at memo.queries q) → HasTop q top e
  has_top top found = with_top (stack_at memo.queries q) (e.stack q) top found (is.stack q)

  -- no such query is live
  pub no_turn : None ≡ option_map (λ s. s.top) (stack_at memo.queries q) → Turns memo turn.NoQuery (turned e q)
  no_turn found =
      let none = without_top (stack_at memo.queries q) (e.stack q) found (is.stack q) in
      subst (Turns memo turn.NoQuery) (sym (ap (turned_at e q) none)) (refl, is)

  module _ (s : Stack) (at : e.stack q ≡ Some s) (top : Frame) (same : s.top ≡ top) where
    pub frame : IsFrame e.rules e.owner q s.top
    frame = (is.sound.stacks q s at).top

    pub kept : stack_at memo.queries q ≡ Some s
    kept = is.stack q ∙ at

    pub live : is_some (stack_at memo.queries q) ≡ true
    live = ap is_some kept

    -- its rule is one of the memo's
    pub its_rule : rule_at memo.rules.items top.rule ≡ Some frame.rule
    its_rule = (λ i. rule_at (is.rules i) (sym same i).rule) ∙ frame.is

    pub needs_so : (rule : Rule) → rule_at memo.rules.items top.rule ≡ Some rule → needs e.rules s.top ≡ next_operand rule top.operands
    needs_so rule there =
        (λ i. needs (sym is.rules i) (same i)) ∙ ap (option_and_then (λ r. next_operand r top.operands)) there

    pub worth_so : (rule : Rule) → rule_at memo.rules.items top.rule ≡ Some rule → value_from rule top.operands ≡ worked_out e.rules s.top
    worth_so rule there =
        sym ((λ i. worked_out (sym is.rules i) (same i)) ∙
        ap (λ x. option_map_or (λ r. value_from r top.operands) x 0) there)

    -- it owns its rule
    module _ (owns : top.owns ≡ true) where
      pub top_owns : s.top.owns ≡ true
      top_owns = ap (λ f. f.owns) same ∙ owns

      pub owned : e.owner s.top.rule ≡ Some q
      owned = frame.owned top_owns

      pub owned_here : e.owner top.rule ≡ Some q
      owned_here = ap (λ f. e.owner f.rule) (sym same) ∙ owned

      pub seeks_nothing : is.claimed.seeks q ≡ None
      seeks_nothing = owner_seeks_none e is.sound is.claimed is.are q s at top_owns

      pub is_held : is.claimed.held top.rule ≡ true
      is_held = is.are.held top.rule ∙ ap is_some owned_here

      -- which isn't known
      pub unknown_here : e.known top.rule ≡ None
      unknown_here = by (e.known top.rule) refl
        where
          by : (x : Option ℕ) → e.known top.rule ≡ x → e.known top.rule ≡ None
          by None none = none
          by (Some v) some = absurd (none_some (sym (is.sound.closed top.rule v some) ∙ owned_here))

      -- so fewer are known than there are rules
      pub known_less : (v : ℕ) → memo.known < length memo.rules.items
      known_less v =
          let rule_is : rule_at e.rules top.rule ≡ Some frame.rule = ap (λ rules. rule_at rules top.rule) (sym is.rules) ∙ its_rule in
          let more : known_in (with_known e top.rule v) ≡ known_in e + 1 = known_more e top.rule v frame.rule rule_is unknown_here in
          let most : known_in (with_known e top.rule v) ≤ length e.rules =
          count_most (length e.rules) (λ k. is_some ((with_known e top.rule v).known k)) in
          let here : memo.known ≡ known_in e = is.known in
          let rules : length memo.rules.items ≡ length e.rules = ap length is.rules in
          less (known_in e) (known_in (with_known e top.rule v)) (length e.rules) memo.known (length memo.rules.items) more most here rules
        where
          less : (x y z a b : ℕ) → y ≡ x + 1 → y ≤ z → a ≡ x → b ≡ z → a < b
          less x y z a b p q r t = omega (arith, p, q, r, t)

-- the frame that works became known with this value
pub works_known : (e : Evaluator) (q : ℕ) (s : Stack) (new : Memo) (said : Turned) (v : ℕ) → v ≡ worked_out e.rules s.top →
    said ≡ (off s.below v).0 → IsMemo new (comes_off (with_known e s.top.rule v) q v s.below).1 → Turns new said (works e q s None)
works_known e q s new said v worth reply is =
    subst (λ u. Turns new said (comes_off (with_known e s.top.rule u) q u s.below)) worth (reply, is)

module _ (old : Memo) (e : Evaluator) (is : IsMemo old e) (q : ℕ) (s : Stack) (at : e.stack q ≡ Some s) (top : Frame) (same : s.top ≡ top) where
  -- the rule of its top frame became known, and that came off
  pub known_turns : top.owns ≡ true → (rule : Rule) → rule_at old.rules.items top.rule ≡ Some rule → needs old.rules.items top ≡ None →
      (v k : ℕ) → v ≡ value_from rule top.operands → k ≡ old.known + 1 → (claims : Claims) →
      IsClaims claims (record is.claimed {
        known = put_at is.claimed.known top.rule (Some v);
        held = put_at is.claimed.held top.rule false;
      }) →
      (places : Places) → ((r : ℕ) → owner_at places r ≡ put_at (owner_at old.places) top.rule None r) →
      ((r : ℕ) → line_at places r ≡ put_at (line_at old.places) top.rule [] r) → (queries : Queries) → (said : Turned) →
      ((t : Stack) → stack_at old.queries q ≡ Some t → said ≡ (off t.below v).0) →
      ((t : Stack) → stack_at old.queries q ≡ Some t → (p : ℕ) →
      stack_at queries p ≡ put_at (stack_at old.queries) q (off t.below v).1 p) →
      ((t : Stack) → stack_at old.queries q ≡ Some t →
      count_of queries + cond (is_some (off t.below v).1) 0 1 ≡ count_of old.queries) →
      Turns (record old { claims = claims; places = places; queries = queries; known = k }) said (works e q s None)
  known_turns owns rule there none v k worth counted claims settles places owners lines queries said replies stacks count =
      let value : v ≡ worked_out e.rules s.top = worth ∙ worth_so old e is q s at top same rule there in
      works_known e q s (record old { claims = claims; places = places; queries = queries; known = k }) said v value
      (replies s (kept old e is q s at top same))
      (known_is old e is q s at rule ((λ i. rule_at (sym is.rules i) (same i).rule) ∙ there) (top_owns old e is q s at top same owns)
      ((λ i. needs (sym is.rules i) (same i)) ∙ none) v k value counted claims
      (subst (λ t. IsClaims claims (record is.claimed {
        known = put_at is.claimed.known t.rule (Some v);
        held = put_at is.claimed.held t.rule false;
      })) (sym same) settles)
      places (λ r. owners r ∙ ap (λ t. put_at (owner_at old.places) t.rule None r) (sym same))
      (λ r. lines r ∙ ap (λ t. put_at (line_at old.places) t.rule [] r) (sym same)) queries stacks count)
