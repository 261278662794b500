-- Buckets by a mask, lengths of arrays, and the first free bucket of a probe.
use Rattle.std.proofs.Common.{◌≡◌, ℕ, suc, ◌+◌, ◌-◌, ◌*◌, ◌<◌, ◌%◌, cond, List, map, length, Option, Some, is_none, sym, ap, subst, ◌∙◌, arith, bit_and}
use Rattle.std.proofs.lemmas.Nat.{and_mask}
use Rattle.std.proofs.Math.Nat.{mod-add-mod}
use Rattle.std.specs.Int.{IsPowerOfTwo}
use Rattle.std.specs.List.{find, range_with_len}
use Rattle.moka_words.specs.declared.words.Word.{Word}
use Rattle.moka_words.specs.Words.{node_of, word_at}
use Rattle.moka_words.specs.Arrays.{bucket_at}

-- the mask of a power of two takes the remainder
masked : (hash size : ℕ) → IsPowerOfTwo size → bit_and hash (size - 1) ≡ hash % size
masked hash size power = subst (λ s. bit_and hash (s - 1) ≡ hash % s) (sym power.1) (and_mask hash power.0)

-- the bucket after n others, as it is reckoned
pub reckoned : (hash n size : ℕ) → IsPowerOfTwo size → bit_and (bit_and hash (size - 1) + n) (size - 1) ≡ bucket_at size hash n
reckoned hash n size power =
    masked (bit_and hash (size - 1) + n) size power
    ∙ ap (λ start. (start + n) % size) (masked hash size power)
    ∙ mod-add-mod hash size n

pub doubled : (size : ℕ) → IsPowerOfTwo size → IsPowerOfTwo (2 * size)
doubled size (k, is) = (suc k, ap (λ s. 2 * s) is ∙ omega (arith))

-- the first free bucket of a probe that has passed some
abbrev pub free_after : List Word → (hash passed left : ℕ) → Option ℕ
free_after words hash passed left = find (λ i. is_none (node_of (word_at words i))) (map (bucket_at (length words) hash) (range_with_len passed left))

-- it is the next one, or one after that
pub free_next : (words : List Word) (hash passed : ℕ) → passed < length words →
    free_after words hash passed (length words - passed)
    ≡ cond (is_none (node_of (word_at words (bucket_at (length words) hash passed)))) (Some (bucket_at (length words) hash passed))
    (free_after words hash (passed + 1) (length words - (passed + 1)))
free_next words hash passed below =
    let more : length words - passed ≡ suc (length words - (passed + 1)) = omega arith in
    ap (λ left. free_after words hash passed left) more
