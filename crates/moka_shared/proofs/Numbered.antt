-- Words by their numbers.
use Rattle.std.proofs.Common.{◌≡◌, ℕ, ◌-◌, ◌*◌, ◌^◌, ◌<◌, ◌≤◌, ap, arith, refl}
use Rattle.moka_words.specs.declared.words.Word.{Word}
use Rattle.moka_words.specs.declared.words.Word.TheVariants.{Unset, Empty, Live, Tomb, SealedEmpty, SealedLive, SealedTomb}
use Rattle.moka_history.specs.Cells.{number_of}
use Rattle.moka_history.specs.Keeping.{IsSmall}

module _ (number : ℕ) where
  pub is_live : (w : Word) → IsSmall w → number ≡ number_of w → 2 ^ 61 ≤ number → number < 2 * 2 ^ 61 → Live (number - 2 ^ 61) ≡ w
  is_live Unset small e low high = absurd (omega (arith, e, low))
  is_live Empty small e low high = absurd (omega (arith, e, low))
  is_live (Live n) small e low high = ap Live (omega (arith, e))
  is_live (Tomb n) small e low high = absurd (omega (arith, e, high))
  is_live SealedEmpty small e low high = absurd (omega (arith, e, low))
  is_live (SealedLive n) small e low high = absurd (omega (arith, e, high))
  is_live (SealedTomb n) small e low high = absurd (omega (arith, e, high))

  pub is_tomb : (w : Word) → IsSmall w → number ≡ number_of w → 2 * 2 ^ 61 ≤ number → number < 3 * 2 ^ 61 → Tomb (number - 2 * 2 ^ 61) ≡ w
  is_tomb Unset small e low high = absurd (omega (arith, e, low))
  is_tomb Empty small e low high = absurd (omega (arith, e, low))
  is_tomb (Live n) small e low high = absurd (let s = small n refl in omega (arith, e, low, s))
  is_tomb (Tomb n) small e low high = ap Tomb (omega (arith, e))
  is_tomb SealedEmpty small e low high = absurd (omega (arith, e, low))
  is_tomb (SealedLive n) small e low high = absurd (omega (arith, e, high))
  is_tomb (SealedTomb n) small e low high = absurd (omega (arith, e, high))

  pub is_sealed_live : (w : Word) → IsSmall w → number ≡ number_of w → 3 * 2 ^ 61 ≤ number → number < 4 * 2 ^ 61 → SealedLive (number - 3 * 2 ^ 61) ≡ w
  is_sealed_live Unset small e low high = absurd (omega (arith, e, low))
  is_sealed_live Empty small e low high = absurd (omega (arith, e, low))
  is_sealed_live (Live n) small e low high = absurd (let s = small n refl in omega (arith, e, low, s))
  is_sealed_live (Tomb n) small e low high = absurd (let s = small n refl in omega (arith, e, low, s))
  is_sealed_live SealedEmpty small e low high = absurd (omega (arith, e, low))
  is_sealed_live (SealedLive n) small e low high = ap SealedLive (omega (arith, e))
  is_sealed_live (SealedTomb n) small e low high = absurd (omega (arith, e, high))

  pub is_sealed_tomb : (w : Word) → IsSmall w → number ≡ number_of w → 4 * 2 ^ 61 ≤ number → SealedTomb (number - 4 * 2 ^ 61) ≡ w
  is_sealed_tomb Unset small e low = absurd (omega (arith, e, low))
  is_sealed_tomb Empty small e low = absurd (omega (arith, e, low))
  is_sealed_tomb (Live n) small e low = absurd (let s = small n refl in omega (arith, e, low, s))
  is_sealed_tomb (Tomb n) small e low = absurd (let s = small n refl in omega (arith, e, low, s))
  is_sealed_tomb SealedEmpty small e low = absurd (omega (arith, e, low))
  is_sealed_tomb (SealedLive n) small e low = absurd (let s = small n refl in omega (arith, e, low, s))
  is_sealed_tomb (SealedTomb n) small e low = ap SealedTomb (omega (arith, e))

  -- a number below all of nodes
  pub is_bare : (w : Word) → number ≡ number_of w → number < 2 ^ 61 → (number ≡ 0 → Empty ≡ w) × (number ≡ 1 → Unset ≡ w) × (2 ≤ number → SealedEmpty ≡ w)
  is_bare Unset e low = (λ z. absurd (omega (arith, e, z)), λ z. refl, λ z. absurd (omega (arith, e, z)))
  is_bare Empty e low = (λ z. refl, λ z. absurd (omega (arith, e, z)), λ z. absurd (omega (arith, e, z)))
  is_bare (Live n) e low = absurd (omega (arith, e, low))
  is_bare (Tomb n) e low = absurd (omega (arith, e, low))
  is_bare SealedEmpty e low = (λ z. absurd (omega (arith, e, z)), λ z. absurd (omega (arith, e, z)), λ z. refl)
  is_bare (SealedLive n) e low = absurd (omega (arith, e, low))
  is_bare (SealedTomb n) e low = absurd (omega (arith, e, low))
