-- What an event is, by the test that decides it.
use Rattle.std.proofs.Common.{◌≡◌, ℕ, Bool, true, false, not, cond, Option, Some, None, Result, Ok, Err, MatchOption, MatchBool, IfOk, IfErr, OnErr, is_ok, MatchResult, refl, sym, subst}
use Rattle.moka_hist.specs.State.{Call, State}
use Rattle.moka_hist.specs.Run.{Any, Happens, Refuses, Steps, Drops}
use Rattle.moka_hist.specs.declared.events.Event.TheVariants as event
use Rattle.moka_hist.specs.declared.replies.Reply.{Reply}
use Rattle.moka_hist.specs.declared.replies.Refusal.TheVariants as refusal
use Rattle.moka_init.specs.declared.goings.Unfinished.{Unfinished}

pub match_true : (b : Bool) (P Q : Type 0) → b ≡ true → P → MatchBool b P Q
match_true b P Q e p = subst (λ (x : Bool). MatchBool x P Q) (sym e) p

pub match_false : (b : Bool) (P Q : Type 0) → b ≡ false → Q → MatchBool b P Q
match_false b P Q e q = subst (λ (x : Bool). MatchBool x P Q) (sym e) q

-- of a number that no live call has
pub match_none : {C : Type 0} (o : Option C) (P : Type 0) (Q : C → Type 0) → o ≡ None → P → MatchOption o P Q
match_none {C} o P Q e p = subst (λ (x : Option C). MatchOption x P Q) (sym e) p

pub not_true : (b : Bool) → not b ≡ true → b ≡ false
not_true true e = sym e
not_true false e = refl

-- a number that was given out was not the greatest, and is the next
pub given_out : (b : Bool) (n x : ℕ) → Some n ≡ cond b None (Some x) → (b ≡ false) × (n ≡ x)
given_out true n x e = absurd (cc)
given_out false n x e = (refl, cc)

module _ {K V E : Type 0} (eq : K → K → Bool) where
  -- a step of a live call
  pub happens_step : (s : State K V E) (n : ℕ) (c : Call K V E) (r : Reply K V E) (t : State K V E) → s.calls n ≡ Some c → Steps eq s n r t → Happens eq Any s (event.Step n) r t
  happens_step s n c r t live steps =
      subst (λ (o : Option (Call K V E)). MatchOption o (Refuses s refusal.UnknownCall r t) (λ _. Steps eq s n r t)) (sym live) steps

  -- a drop of a live call
  pub happens_drop : (s : State K V E) (n : ℕ) (c : Call K V E) (r : Reply K V E) (t : State K V E) → s.calls n ≡ Some c → Drops s n c c.mode r t → Happens eq Any s (event.Drop n) r t
  happens_drop s n c r t live drops =
      subst (λ (o : Option (Call K V E)). MatchOption o (Refuses s refusal.UnknownCall r t) (λ d. Drops s n d d.mode r t)) (sym live) drops

module _ {R E : Type 0} where
  -- what holds of a reply, where no steps of a poll were made
  pub unpolled_ok : (reply : Result R E) (result : Result R Unfinished) (P : R → Type 0)
      → MatchResult result (λ r. reply ≡ Ok r) (λ u. (u.steps ≡ 0) × (is_ok reply ≡ false)) → IfOk reply P → IfOk result P
  unpolled_ok reply (Ok r) P e p = subst (λ (x : Result R E). IfOk x P) e p
  unpolled_ok reply (Err u) P e p = tt

  -- the same of its want of memory
  pub unpolled_on_err : (reply : Result R E) (result : Result R Unfinished) (P : Type 0)
      → MatchResult result (λ r. reply ≡ Ok r) (λ u. (u.steps ≡ 0) × (is_ok reply ≡ false)) → OnErr reply P → OnErr result P
  unpolled_on_err reply (Ok r) P e p = tt
  unpolled_on_err (Ok r) (Err u) P e p = let f : true ≡ false = e.1 in absurd (cc)
  unpolled_on_err (Err x) (Err u) P e p = p

  pub on_err_if : (result : Result R E) (P : E → Type 0) (Q : Type 0) → ((e : E) → P e → Q) → IfErr result P → OnErr result Q
  on_err_if (Ok r) P Q f p = tt
  on_err_if (Err e) P Q f p = f e p

  pub on_err_both : (result : Result R E) (P Q : Type 0) → OnErr result P → OnErr result Q → OnErr result (P × Q)
  on_err_both (Ok r) P Q p q = tt
  on_err_both (Err e) P Q p q = (p, q)

  pub unpolled_err : (reply : Result R E) (result : Result R Unfinished) (P : Type 0)
      → MatchResult result (λ r. reply ≡ Ok r) (λ u. (u.steps ≡ 0) × (is_ok reply ≡ false)) → OnErr reply P → IfErr result (λ u. (u.steps ≡ 0) × P)
  unpolled_err reply (Ok r) P e p = tt
  unpolled_err (Ok r) (Err u) P e p = let f : true ≡ false = e.1 in absurd (cc)
  unpolled_err (Err x) (Err u) P e p = (e.0, p)
