-- Asking, and what a new memo stands for.
use Rattle.std.proofs.Common.{◌≡◌, ◌<◌, ◌≤◌, ◌+◌, ℕ, nat_lt, Bool, true, false, List, [], Option, Some, None, is_some, IsSome, length, refl, sym, ap, ◌∙◌, subst, arith}
use Rattle.std.proofs.lemmas.Bool.{false≢true, ltb-true, ltb-false}
use Rattle.std.specs.Option.{option_and_then}
use Rattle.moka_hist.specs.Finite.{put_at}
use Rattle.moka_claims.specs.Claims.{IsClaims}
use Rattle.moka_evaluator.specs.Claimed.{AreClaims, no_claims, sought_by}
use Rattle.moka_evaluator.specs.Evaluator.{Evaluator, fresh, live}
use Rattle.moka_evaluator.specs.Plain.{rule_at}
use Rattle.moka_evaluator.specs.Sound.{IsSound}
use Rattle.moka_evaluator.specs.Steps.{asked, just, most_live}
use Rattle.moka_evaluator.specs.declared.rules.Rule.{Rule}
use Rattle.moka_evaluator.proofs.Claiming.{seeks_none}
use Rattle.moka_evaluator.proofs.Counting.{count_none}
use Rattle.moka_stacks.specs.Places.{line_at, owner_at}
use Rattle.moka_stacks.specs.Queries.{count_of, stack_at}
use Rattle.moka_memo.specs.Memo.{IsMemo}
use Rattle.moka_memo.specs.declared.memo.Memo.{Memo}
use Rattle.moka_memo.proofs.Tops.{asked_full, asked_none, asked_so}

-- of a memo on which nothing was asked
pub fresh_is : (memo : Memo) (rules : List Rule) → IsSound (fresh rules) → AreClaims (fresh rules) no_claims → memo.spent ≡ false →
    memo.rules.items ≡ rules → ((r : ℕ) → owner_at memo.places r ≡ None) → ((r : ℕ) → line_at memo.places r ≡ []) →
    ((q : ℕ) → stack_at memo.queries q ≡ None) → count_of memo.queries ≡ 0 → memo.last ≡ 0 → memo.known ≡ 0 →
    IsClaims memo.claims no_claims → IsMemo memo (fresh rules)
fresh_is memo rules sound are unspent same owners lines stacks count last known claims = record {
  unspent = unspent;
  sound = sound;
  rules = same;
  owner = owners;
  line = lines;
  stack = stacks;
  last = last;
  live = count;
  known = known ∙ sym (count_none (length rules));
  claimed = no_claims;
  claims = claims;
  are = are;
}

module _ (memo : Memo) (e : Evaluator) (is : IsMemo memo e) (r : ℕ) where
  -- the call answers so, and the memo stands for what it leaves
  abbrev pub Asks : Memo → Option ℕ → Type 0
  Asks new said = (said ≡ (asked e r).0) × IsMemo new (asked e r).1

  pub refused : asked e r ≡ (None, e) → Asks memo None
  refused so = (sym (ap (λ x. x.0) so), subst (λ x. IsMemo memo x.1) (sym so) is)

  -- there is no room
  pub full_is : most_live ≤ count_of memo.queries → Asks memo None
  full_is full = refused (asked_full e r (subst (λ n. most_live ≤ n) is.live full))

  -- there is no such rule
  pub none_is : rule_at memo.rules.items r ≡ None → Asks memo None
  none_is none = refused (asked_none e r (ap (λ rules. rule_at rules r) (sym is.rules) ∙ none))

  pub some_is : (rule : Rule) → rule_at memo.rules.items r ≡ Some rule → IsSome (rule_at e.rules r)
  some_is rule there = ap is_some (ap (λ rules. rule_at rules r) (sym is.rules) ∙ there)

  pub room_is : IsSome (rule_at e.rules r) → count_of memo.queries < most_live → (new : Memo) (said : Option ℕ) →
      (said ≡ Some (e.last + 1)) × IsMemo new (record e { stack = put_at e.stack (e.last + 1) (Some (just r)); last = e.last + 1 }) →
      Asks new said
  room_is some room new said came =
      let so = asked_so e r some (subst (λ n. n < most_live) is.live room) in
      (came.0 ∙ sym (ap (λ x. x.0) so), subst (λ x. IsMemo new x.1) (sym so) came.1)

  -- the next number is no query's, and seeks nothing
  pub next_none : e.stack (e.last + 1) ≡ None
  next_none = is.sound.numbered (e.last + 1) (omega arith)

  pub next_seeks : is.claimed.seeks (e.last + 1) ≡ None
  next_seeks = seeks_none (is.claimed.seeks (e.last + 1)) (is.are.seeks (e.last + 1) ∙
      ap (option_and_then (sought_by e (e.last + 1))) next_none)

pub this_rule : {A : Type 0} (x : Option A) → is_some x ≡ true → (a : A) × (x ≡ Some a)
this_rule None e = absurd (false≢true e)
this_rule (Some a) e = (a, refl)

-- it isn't full
pub has_room : (b : Bool) (n : ℕ) → b ≡ false → (most_live ≤ n → b ≡ true) → n < most_live
has_room b n isnt full = by (nat_lt n most_live) refl
  where
    by : (t : Bool) → nat_lt n most_live ≡ t → n < most_live
    by true less = ltb-true n most_live less
    by false least = absurd (false≢true (sym isnt ∙ full (ltb-false n most_live least)))
