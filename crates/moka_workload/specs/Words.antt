-- The words that decide a workload: those of `Lcg128Xsl64::seed_from_u64(SEED)`, by `next_word`.
use Rattle.std.specs.Prelude.{ℕ, zero, suc}
use Rattle.rand_core.specs.Pcg32Seed.{pcg32_seed}
use Rattle.rand_pcg.specs.Lcg.{Lcg}
use Rattle.rand_pcg.specs.Pcg.{pcg64, pcg64_of_seed}

-- the generator of the seed, after n words
unfoldable pub after_words : ℕ → ℕ → Lcg
after_words seed zero = pcg64_of_seed (pcg32_seed 32 seed)
after_words seed (suc n) = (pcg64 (after_words seed n)).1

-- the word after n others
abbrev pub word_after : ℕ → ℕ → ℕ
word_after seed n = (pcg64 (after_words seed n)).0
