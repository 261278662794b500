-- Words of an array, by their buckets.
use Rattle.std.proofs.Common.{◌≡◌, ◌≢◌, ℕ, List, zero, suc, refl, set}
use Rattle.moka_words.specs.declared.words.Word.{Word}
use Rattle.moka_words.specs.Effect.{alone, SetsWord}

-- a word set in the one array
pub alone_set : (words : List Word) (i : ℕ) (w : Word) → SetsWord 0 i w (alone words) (alone (set words i w))
alone_set words i w = (refl, others, record { arrays = refl; rooted = refl; fresh = refl })
  where
    others : (a : ℕ) → a ≢ 0 → (alone (set words i w)).words a ≡ (alone words).words a
    others zero h = absurd (h refl)
    others (suc a) h = refl
