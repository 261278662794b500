-- Times that are the same to the rules.
use Rattle.std.proofs.Common.{◌≡◌, ◌≤◌, ◌||◌, ℕ, Bool, true, false, not, Option, None, Some, is_some, nat_lt, if◌then◌else◌, refl, sym, ap, ◌∙◌, arith}
use Rattle.std.proofs.lemmas.Bool.{ltb-true, ltb-false}
use Rattle.std.specs.declared.time.Duration.{Duration}
use Rattle.moka_hist.specs.Causes.{chosen_holds, remove_cause, upsert_cause}
use Rattle.moka_hist.specs.Visible.{is_expired, is_hidden, is_invalid, is_past, is_past_idle, is_past_live, is_visible}
use Rattle.moka_hist.specs.declared.rules.Rules.{Rules}
use Rattle.moka_hist.specs.declared.rules.Times.{Times}
use Rattle.moka_hist.specs.declared.rules.Cause.{Cause}
use Rattle.moka_hist.specs.declared.rules.Cause.TheVariants.{Expired, Explicit, Replaced, Size}
use Rattle.moka_desk.specs.Moments.{AreAlike}

past_alike : (idle : Option Duration) (a b c d : ℕ) → c ≡ d → (is_some idle ≡ true → a ≡ b) → is_past idle a c ≡ is_past idle b d
past_alike None a b c d e h = refl
past_alike (Some duration) a b c d e h = let same = h refl in λ i. is_past (Some duration) (same i) (e i)

-- a record that was accessed no earlier than it was written is hidden by its write alone
hidden_by_write : (modified accessed : ℕ) (valid : Option ℕ) → modified ≤ accessed → (is_invalid modified valid || is_invalid accessed valid) ≡ is_invalid modified valid
hidden_by_write modified accessed None since = refl
hidden_by_write modified accessed (Some valid) since = by (nat_lt modified valid) refl (nat_lt accessed valid) refl where
  by : (b : Bool) → nat_lt modified valid ≡ b → (c : Bool) → nat_lt accessed valid ≡ c → (b || c) ≡ b
  by true e c f = refl
  by false e true f =
      let low = ltb-true accessed valid f in
      let high = ltb-false modified valid e in
      absurd (omega (arith, low, high, since))
  by false e false f = refl

module _ (rules : Rules) (t u : Times) (alike : AreAlike rules t u) where
  live : is_past_live rules t ≡ is_past_live rules u
  live = λ i. is_past rules.time_to_live (alike.modified i) (alike.clock i)

  idle : is_past_idle rules t ≡ is_past_idle rules u
  idle = past_alike rules.time_to_idle t.accessed u.accessed t.clock u.clock alike.clock alike.accessed

  hidden : is_hidden t ≡ is_hidden u
  hidden =
      hidden_by_write t.modified t.accessed t.valid_after alike.since.0
      ∙ (λ i. is_invalid (alike.modified i) (alike.valid i))
      ∙ sym (hidden_by_write u.modified u.accessed u.valid_after alike.since.1)

  pub upsert_alike : upsert_cause rules t ≡ upsert_cause rules u
  upsert_alike = λ i. if live i then Expired else (if is_invalid (alike.modified i) (alike.valid i) then Explicit else (if idle i then Expired else Replaced))

  pub remove_alike : remove_cause rules t ≡ remove_cause rules u
  remove_alike = λ i. if live i || idle i then Expired else Explicit

  pub chosen_alike : (hit : Bool) (cause : Cause) → chosen_holds rules t hit cause ≡ chosen_holds rules u hit cause
  chosen_alike hit Size = refl
  chosen_alike hit Explicit = ap (λ b. b || hit) hidden
  chosen_alike hit Expired = λ i. live i || idle i
  chosen_alike hit Replaced = refl

  pub visible_alike : (hit : Bool) → is_visible rules t hit ≡ is_visible rules u hit
  visible_alike hit = λ i. not ((live i || idle i) || hidden i || hit)

-- a record that a predicate hits isn't visible
pub hit_hides : (rules : Rules) (times : Times) → is_visible rules times true ≡ false
hit_hides rules times = by (is_expired rules times) (is_hidden times) where
  by : (a b : Bool) → not (a || b || true) ≡ false
  by true true = refl
  by true false = refl
  by false true = refl
  by false false = refl
