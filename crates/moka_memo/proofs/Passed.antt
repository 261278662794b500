-- A query that owns a rule, or looks at one.
use Rattle.std.proofs.Common.{◌≡◌, ◌≢◌, ℕ, ◌==◌, ◌+◌, Bool, true, false, cond, [], ◌∷◌, ◌++◌, Option, Some, None, is_some, refl, sym, ap, ◌∙◌, subst}
use Rattle.std.proofs.lemmas.Bool.{false≢true}
use Rattle.std.specs.Option.{option_map_or}
use Rattle.moka_hist.specs.Finite.{put_at}
use Rattle.moka_claims.specs.Claims.{IsClaims, looked}
use Rattle.moka_claims.specs.declared.claims.Claims.{Claims}
use Rattle.moka_claims.specs.declared.look.Look.TheVariants as look
use Rattle.moka_evaluator.specs.Evaluator.{Evaluator, Stack, is_in, is_owner}
use Rattle.moka_evaluator.specs.Steps.{off, seeks}
use Rattle.moka_evaluator.specs.declared.turns.Turned.{Turned}
use Rattle.moka_evaluator.specs.declared.turns.Turned.TheVariants as turn
use Rattle.moka_evaluator.proofs.Basics.{is_this}
use Rattle.moka_evaluator.proofs.Claiming.{seeks_top}
use Rattle.moka_stacks.specs.Places.{line_at, owner_at}
use Rattle.moka_stacks.specs.Queries.{count_of, stack_at}
use Rattle.moka_stacks.specs.declared.places.Places.{Places}
use Rattle.moka_stacks.specs.declared.queries.Queries.{Queries}
use Rattle.moka_memo.specs.Memo.{IsMemo, Turns}
use Rattle.moka_memo.specs.declared.memo.Memo.{Memo}
use Rattle.moka_memo.proofs.Becoming.{found_is, own_is, owned_unknown, take_is, wait_is}
use Rattle.moka_memo.proofs.Looking.{as_holds, as_value, as_waits}
use Rattle.moka_memo.proofs.Tops.{free_is, other_is, passed_is}

module _ (old : Memo) (e : Evaluator) (is : IsMemo old e) (q : ℕ) where
  -- who owns a rule is as it is kept
  pub owner_so : (r : ℕ) → is_owner e q r ≡ option_map_or (λ o. o == q) (owner_at old.places r) false
  owner_so r = ap (λ o. option_map_or (λ n. n == q) o false) (sym (is.owner r))

  module _ (s : Stack) (at : e.stack q ≡ Some s) (seeks_it : s.top.owns ≡ false) where
    kept : stack_at old.queries q ≡ Some s
    kept = is.stack q ∙ at

    -- it was passed the rule
    pub own_turns : is_owner e q s.top.rule ≡ true → (queries : Queries) →
        ((t : Stack) → stack_at old.queries q ≡ Some t → (p : ℕ) →
        stack_at queries p ≡ put_at (stack_at old.queries) q (Some (record t { top = record t.top { owns = true } })) p) →
        count_of queries ≡ count_of old.queries → Turns (record old { queries = queries }) turn.Moved (seeks e q s (e.known s.top.rule))
    own_turns own queries stacks count =
        let passed : e.owner s.top.rule ≡ Some q = is_this (e.owner s.top.rule) q own in
        let unknown = owned_unknown old e is q s at s.top.rule q passed in
        subst (Turns (record old { queries = queries }) turn.Moved) (sym (passed_is e q s unknown passed))
        (refl, own_is old e is q s at seeks_it passed unknown queries stacks count)

    -- it seeks the rule by a call of its own
    module _ (other : is_owner e q s.top.rule ≡ false) where
      pub its_claim : (w : Bool) × (is.claimed.seeks q ≡ Some (s.top.rule, w))
      its_claim = seeks_top e is.sound is.claimed is.are q s at seeks_it other

      -- the look told its value
      pub value_turns : (v : ℕ) (claims : Claims) →
          (look.Value v ≡ (looked is.claimed q s.top.rule its_claim.0).0) × IsClaims claims (looked is.claimed q s.top.rule its_claim.0).1 →
          (queries : Queries) → (said : Turned) → ((t : Stack) → stack_at old.queries q ≡ Some t → said ≡ (off t.below v).0) →
          ((t : Stack) → stack_at old.queries q ≡ Some t → (p : ℕ) →
          stack_at queries p ≡ put_at (stack_at old.queries) q (off t.below v).1 p) →
          ((t : Stack) → stack_at old.queries q ≡ Some t →
          count_of queries + cond (is_some (off t.below v).1) 0 1 ≡ count_of old.queries) →
          Turns (record old { claims = claims; queries = queries }) said (seeks e q s (e.known s.top.rule))
      value_turns v claims came queries said replies stacks count =
          let value = as_value is.claimed q s.top.rule its_claim.0 v came.0 in
          let known : e.known s.top.rule ≡ Some v = sym (is.are.known s.top.rule) ∙ value.0 in
          subst (λ x. Turns (record old { claims = claims; queries = queries }) said (seeks e q s x)) (sym known)
          (replies s kept, found_is old e is q s at v known claims (subst (IsClaims claims) value.1 came.1) queries stacks count)

      -- no call held it
      pub take_turns : (claims : Claims) →
          (look.Holds ≡ (looked is.claimed q s.top.rule its_claim.0).0) × IsClaims claims (looked is.claimed q s.top.rule its_claim.0).1 →
          (places : Places) → ((r : ℕ) → owner_at places r ≡ put_at (owner_at old.places) s.top.rule (Some q) r) →
          ((r : ℕ) → line_at places r ≡ put_at (line_at old.places) s.top.rule [] r) → (queries : Queries) →
          ((t : Stack) → stack_at old.queries q ≡ Some t → (p : ℕ) →
          stack_at queries p ≡ put_at (stack_at old.queries) q (Some (record t { top = record t.top { owns = true } })) p) →
          count_of queries ≡ count_of old.queries →
          Turns (record old { claims = claims; places = places; queries = queries }) turn.Moved (seeks e q s (e.known s.top.rule))
      take_turns claims came places owners lines queries stacks count =
          let holds = as_holds is.claimed q s.top.rule its_claim.0 came.0 in
          let unknown : e.known s.top.rule ≡ None = sym (is.are.known s.top.rule) ∙ holds.0 in
          let free : e.owner s.top.rule ≡ None = no_owner (e.owner s.top.rule) (sym (is.are.held s.top.rule) ∙ holds.1.0) in
          subst (Turns (record old { claims = claims; places = places; queries = queries }) turn.Moved) (sym (free_is e q s unknown free))
          (refl, take_is old e is q s at free unknown claims (subst (IsClaims claims) holds.1.1 came.1) places owners lines queries stacks count)
        where
          no_owner : (x : Option ℕ) → is_some x ≡ false → x ≡ None
          no_owner None isnt = refl
          no_owner (Some o) isnt = absurd (false≢true (sym isnt))

      -- another one holds it
      pub its_owner : is_some (e.owner s.top.rule) ≡ true → (o : ℕ) × (e.owner s.top.rule ≡ Some o) × ((o == q) ≡ false)
      its_owner held = by (e.owner s.top.rule) refl held
        where
          by : (x : Option ℕ) → e.owner s.top.rule ≡ x → is_some x ≡ true → (o : ℕ) × (e.owner s.top.rule ≡ Some o) × ((o == q) ≡ false)
          by None none some = absurd (false≢true some)
          by (Some o) owned some = (o, owned, sym (ap (λ x. option_map_or (λ n. n == q) x false) owned) ∙ other)

      pub waits_held : (b : Bool) → (look.Waits b ≡ (looked is.claimed q s.top.rule its_claim.0).0) → is_some (owner_at old.places s.top.rule) ≡ true
      waits_held b said = ap is_some (is.owner s.top.rule) ∙ sym (is.are.held s.top.rule) ∙ (as_waits is.claimed q s.top.rule its_claim.0 b said).1.0

      pub wait_turns : (b : Bool) (claims : Claims) →
          (look.Waits b ≡ (looked is.claimed q s.top.rule its_claim.0).0) × IsClaims claims (looked is.claimed q s.top.rule its_claim.0).1 →
          (places : Places) → ((r : ℕ) → owner_at places r ≡ owner_at old.places r) →
          ((r : ℕ) → line_at places r ≡ put_at (line_at old.places) s.top.rule
          (cond b (line_at old.places s.top.rule) (line_at old.places s.top.rule ++ q ∷ [])) r) →
          Turns (record old { claims = claims; places = places }) (turn.Waits s.top.rule) (seeks e q s (e.known s.top.rule))
      wait_turns b claims came places owners lines =
          let waits = as_waits is.claimed q s.top.rule its_claim.0 b came.0 in
          let unknown : e.known s.top.rule ≡ None = sym (is.are.known s.top.rule) ∙ waits.0 in
          let owner = its_owner (sym (is.are.held s.top.rule) ∙ waits.1.0) in
          let in_line : b ≡ is_in q (line_at old.places s.top.rule) =
          waits.1.1.0 ∙ is.are.waits q s.top.rule its_claim.0 its_claim.1 unknown ∙ ap (is_in q) (sym (is.line s.top.rule)) in
          subst (Turns (record old { claims = claims; places = places }) (turn.Waits s.top.rule))
          (sym (other_is e q s owner.0 unknown owner.1 owner.2)) (
            refl,
            wait_is old e is q s at owner.0 its_claim.0 seeks_it owner.1 owner.2 its_claim.1 claims
                (subst (IsClaims claims) waits.1.1.1 came.1) places owners
                (λ r. lines r ∙ ap (λ t. put_at (line_at old.places) s.top.rule
                (cond t (line_at old.places s.top.rule) (line_at old.places s.top.rule ++ q ∷ [])) r) in_line),
          )
