-- Layouts and probes worked by hand: the definitions give them.
use Rattle.std.proofs.Common.{◌≡◌, [], ◌∷◌, Some, None, refl}
use Rattle.moka_words.specs.declared.words.Word.TheVariants.{Empty, Live, Tomb, SealedEmpty, SealedLive, SealedTomb}
use Rattle.moka_words.specs.Arrays.{probe, first_free}
use Rattle.moka_words.specs.Layout.{layout}

-- a probe goes round the end
probe_round : probe 4 7 ≡ 3 ∷ 0 ∷ 1 ∷ 2 ∷ []
probe_round = refl

-- nodes 5 and 7 under hash 3: the first takes the last bucket, the second the first one; the tombstone is gone
round_the_end : layout (λ n. 3) (SealedLive 5 ∷ SealedTomb 6 ∷ SealedEmpty ∷ SealedLive 7 ∷ []) 4 ≡ Live 7 ∷ Empty ∷ Empty ∷ Live 5 ∷ []
round_the_end = refl

-- in an array that is twice as long, nodes under their own numbers
longer : layout (λ n. n) (SealedLive 9 ∷ SealedLive 5 ∷ []) 4 ≡ Empty ∷ Live 9 ∷ Live 5 ∷ Empty ∷ []
longer = refl

-- a tombstone is not free, and a full array has no free bucket
past_tombstones : first_free (Live 1 ∷ Empty ∷ Tomb 2 ∷ Live 3 ∷ []) 2 ≡ Some 1
past_tombstones = refl

full : first_free (Tomb 1 ∷ Live 2 ∷ []) 0 ≡ None
full = refl
