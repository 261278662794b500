-- The first mark stands where the lowest bit is set of those that tell which of the first bytes are marks.
use Rattle.std.proofs.Common.{◌≡◌, ℕ, ◌+◌, ◌%◌, ◌^◌, ◌<◌, ◌≤◌, Bool, not, List, length, map, take, get_or, pow_mono, sym, ap, ◌∙◌, arith, inl, inr, w64}
use Rattle.std.specs.List.{position_or_len, prefix_len}
use Rattle.std.specs.Simd.Lanes.{mask_l}
use Rattle.std.proofs.lemmas.Bool.{cases_lt}
use Rattle.std.proofs.lemmas.List.{length-map}
use Rattle.std.proofs.lemmas.List.Sums.{position_or_len_is}
use Rattle.std.proofs.lemmas.Nat.Bits.{bit_at-trailing_zeros}
use Rattle.std.proofs.lemmas.Simd.{mask_l-lt, trailing_mask_l, length-chunk, run_in_chunk_fails, run_in_chunk_stops}
use native.Mathlib.Nat.{div-eq_of_lt}
use lib.Count.{count_trailing_zeros}

module _ (p : ℕ → Bool) (bytes : List ℕ) (n : ℕ) (room : n ≤ length bytes) (few : n ≤ 64) where
  -- a bit each of the first bytes
  abbrev marks : ℕ
  marks = mask_l (map p (take n bytes))

  abbrev lowest : ℕ
  lowest = count_trailing_zeros 64 marks

  room_from : 0 + n ≤ length bytes
  room_from = omega (arith, room)

  count : length (map p (take n bytes)) ≡ n
  count = length-map (take n bytes) p ∙ length-chunk 0 n bytes room_from

  small : marks < 2 ^ n
  small = omega (arith, mask_l-lt (map p (take n bytes)), ap (λ k. 2 ^ k) count)

  within : 0 < marks → lowest < n
  within some =
      elim (cases_lt lowest n) [
        | inl below ↦ below
        | inr past ↦
            let bits = bit_at-trailing_zeros w64 marks some (omega (arith, small, pow_mono {i = n} {j = 64} few)) in
            let low : marks < 2 ^ lowest = omega (arith, small, pow_mono {i = n} {j = lowest} past) in
            absurd (omega (arith, bits.1, ap (λ k. k % 2) (div-eq_of_lt low)))
      ]

  pub lowest_is_first : 0 < marks → lowest ≡ position_or_len p bytes
  lowest_is_first some =
      let short = within some in
      let same : lowest ≡ 0 + lowest = omega arith in
      let counted : lowest ≡ prefix_len (λ b. not (p b)) (take n bytes) = trailing_mask_l p 64 (take n bytes) (omega (arith, length-chunk 0 n bytes room_from)) some in
      sym (position_or_len_is p bytes lowest 0 (omega arith)
      (λ k below. run_in_chunk_fails p bytes 0 n lowest 0 room_from counted k (omega arith) (omega (arith, below)))
      (λ _. ap (λ k. p (get_or bytes k 0)) same ∙ run_in_chunk_stops p bytes 0 n lowest 0 room_from counted short))
