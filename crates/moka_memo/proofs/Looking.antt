-- What a look at a rule says of it.
use Rattle.std.proofs.Common.{◌≡◌, ℕ, Bool, true, false, cond, Option, Some, None, refl, sym, ap, ◌∙◌}
use Rattle.moka_hist.specs.Finite.{put_at}
use Rattle.moka_claims.specs.Claims.{looked, looked_at}
use Rattle.moka_claims.specs.declared.look.Look.{Look}
use Rattle.moka_claims.specs.declared.look.Look.TheVariants as look
use Rattle.moka_evaluator.specs.Claimed.{Claimed}

value_same : {v w : ℕ} → look.Value v ≡ look.Value w → v ≡ w
value_same e = cc

value_holds : {v : ℕ} → look.Value v ≡ look.Holds → ⊥
value_holds e = cc

value_waits : {v : ℕ} {b : Bool} → look.Value v ≡ look.Waits b → ⊥
value_waits e = cc

holds_waits : {b : Bool} → look.Holds ≡ look.Waits b → ⊥
holds_waits e = cc

waits_same : {a b : Bool} → look.Waits a ≡ look.Waits b → a ≡ b
waits_same e = cc

module _ (claimed : Claimed) (q r : ℕ) (w : Bool) where
  -- the query seeks nothing any more
  abbrev pub left : Claimed
  left = record claimed { seeks = put_at claimed.seeks q None }

  abbrev pub holding : Claimed
  holding = record claimed { held = put_at claimed.held r true; seeks = put_at claimed.seeks q None }

  abbrev pub waiting : Claimed
  waiting = record claimed { seeks = put_at claimed.seeks q (Some (r, true)) }

  abbrev unknown : Bool → Look × Claimed
  unknown b = cond b (look.Waits w, waiting) (look.Holds, holding)

  pub as_value : (v : ℕ) → look.Value v ≡ (looked claimed q r w).0 →
      (claimed.known r ≡ Some v) × ((looked claimed q r w).1 ≡ left)
  as_value v said = by (claimed.known r) refl said
    where
      none : (b : Bool) → look.Value v ≡ (unknown b).0 → ⊥
      none true e = value_waits e
      none false e = value_holds e

      by : (x : Option ℕ) → claimed.known r ≡ x → look.Value v ≡ (looked_at claimed q r w x).0 →
          (claimed.known r ≡ Some v) × ((looked_at claimed q r w x).1 ≡ left)
      by (Some u) known e = (known ∙ ap Some (sym (value_same e)), refl)
      by None known e = absurd (none (claimed.held r) e)

  pub as_holds : look.Holds ≡ (looked claimed q r w).0 →
      (claimed.known r ≡ None) × ((claimed.held r ≡ false) × ((looked claimed q r w).1 ≡ holding))
  as_holds said = by (claimed.known r) refl said
    where
      free : (b : Bool) → claimed.held r ≡ b → look.Holds ≡ (unknown b).0 → (claimed.held r ≡ false) × ((unknown b).1 ≡ holding)
      free true is e = absurd (holds_waits e)
      free false is e = (is, refl)

      by : (x : Option ℕ) → claimed.known r ≡ x → look.Holds ≡ (looked_at claimed q r w x).0 →
          (claimed.known r ≡ None) × ((claimed.held r ≡ false) × ((looked_at claimed q r w x).1 ≡ holding))
      by (Some u) known e = absurd (value_holds (sym e))
      by None known e = (known, free (claimed.held r) refl e)

  pub as_waits : (b : Bool) → look.Waits b ≡ (looked claimed q r w).0 →
      (claimed.known r ≡ None) × ((claimed.held r ≡ true) × ((b ≡ w) × ((looked claimed q r w).1 ≡ waiting)))
  as_waits b said = by (claimed.known r) refl said
    where
      held : (c : Bool) → claimed.held r ≡ c → look.Waits b ≡ (unknown c).0 → (claimed.held r ≡ true) × ((b ≡ w) × ((unknown c).1 ≡ waiting))
      held true is e = (is, (waits_same e, refl))
      held false is e = absurd (holds_waits (sym e))

      by : (x : Option ℕ) → claimed.known r ≡ x → look.Waits b ≡ (looked_at claimed q r w x).0 →
          (claimed.known r ≡ None) × ((claimed.held r ≡ true) × ((b ≡ w) × ((looked_at claimed q r w x).1 ≡ waiting)))
      by (Some u) known e = absurd (value_waits (sym e))
      by None known e = (known, held (claimed.held r) refl e)
