-- The keys of one segment, where all segments share the numbers.
use Rattle.std.proofs.Common.{◌≡◌, ℕ, Bool, true, false, Option, Some, None, if◌then◌else◌, refl, ap, ◌∙◌}
use Rattle.std.specs.Option.{option_map}
use Rattle.moka_pairs.specs.Keys.{Agrees}
use Rattle.moka_pairs.specs.Pairs.{AreKeysOf, key_if, segment_keys}

no_item : {A : Type 0} {x : A} → None ≡ Some x → ⊥
no_item e = cc

module _ {K V : Type 0} (is_mine : K → Bool) where
  -- they are those of pairs
  pub segment_are : (pairs : ℕ → Option (K × V)) → AreKeysOf (segment_keys is_mine pairs) pairs
  segment_are pairs n k e = by (pairs n) e
    where
      test : (p : K × V) (b : Bool) → (if b then Some p.0 else None) ≡ Some k → Some p.0 ≡ Some k
      test p true f = f
      test p false f = absurd (no_item f)

      by : (o : Option (K × V)) → key_if is_mine o ≡ Some k → option_map (λ p. p.0) o ≡ Some k
      by None f = absurd (no_item f)
      by (Some p) f = test p (is_mine p.0) f

  -- of a pair whose key is the segment's its key is one of them
  pub segment_has : (pairs : ℕ → Option (K × V)) (n : ℕ) (p : K × V) → pairs n ≡ Some p → is_mine p.0 ≡ true → segment_keys is_mine pairs n ≡ Some p.0
  segment_has pairs n p there mine = ap (key_if is_mine) there ∙ ap (λ b. if b then Some p.0 else None) mine

  -- where there are more pairs, there are more
  pub segment_grows : (more pairs : ℕ → Option (K × V)) → Agrees more pairs → Agrees (segment_keys is_mine more) (segment_keys is_mine pairs)
  segment_grows more pairs grows n k e = by (pairs n) refl e
    where
      by : (o : Option (K × V)) → pairs n ≡ o → key_if is_mine o ≡ Some k → key_if is_mine (more n) ≡ Some k
      by None there f = absurd (no_item f)
      by (Some p) there f = ap (key_if is_mine) (grows n p there) ∙ f
