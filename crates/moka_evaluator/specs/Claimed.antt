-- What queries claim of rules, and which claims an evaluator has.
use Rattle.std.specs.Prelude.{◌≡◌, ◌≢◌, ℕ, Bool, true, false, cond, ◌||◌, Option, Some, None, is_some}
use Rattle.std.specs.Option.{option_map, option_and_then}
use Rattle.moka_evaluator.specs.Evaluator.{Evaluator, Stack, is_in, is_owner}

-- what is known, which rules are held, and what each query seeks: a rule, and whether it waits
pub record Claimed : Type 0 where
  pub known : ℕ → Option ℕ
  pub held : ℕ → Bool
  pub seeks : ℕ → Option (ℕ × Bool)

-- nothing is known, held or sought
abbrev pub no_claims : Claimed
no_claims = record { known = λ _. None; held = λ _. false; seeks = λ _. None }

-- no query waits for the rule
abbrev pub IsUnawaited : Claimed → ℕ → Type 0
IsUnawaited claimed r = (q : ℕ) → claimed.seeks q ≢ Some (r, true)

-- the rule that a query with this stack seeks by a call of its own: that of its top frame, unless the
-- query owns it, or was passed it
abbrev pub sought_by : Evaluator → ℕ → Stack → Option ℕ
sought_by e q s = cond (s.top.owns || is_owner e q s.top.rule) None (Some s.top.rule)

-- The claims are those of the evaluator.
pub record AreClaims (e : Evaluator) (claimed : Claimed) : Type 0 where
  pub known : (r : ℕ) → claimed.known r ≡ e.known r
  -- a rule is held that some query owns
  pub held : (r : ℕ) → claimed.held r ≡ is_some (e.owner r)
  pub seeks : (q : ℕ) →
      option_map (λ sought. sought.0) (claimed.seeks q) ≡ option_and_then (sought_by e q) (e.stack q)
  -- who waits for an unknown rule is in its line
  pub waits : (q r : ℕ) (waits : Bool) → claimed.seeks q ≡ Some (r, waits) → e.known r ≡ None →
      waits ≡ is_in q (e.line r)
