-- Ids of version 4 (RFC 9562), from words of a generator.
use Rattle.std.specs.Prelude.{ℕ, zero, suc, ◌+◌, ◌*◌, ◌/◌, ◌%◌, ◌^◌}
use Rattle.rand_core.specs.Pcg32Seed.{pcg32_seed}
use Rattle.rand_pcg.specs.Lcg.{Lcg}
use Rattle.rand_pcg.specs.Pcg.{pcg64, pcg64_of_seed}

-- the generator of this seed
abbrev pub seeded : ℕ → Lcg
seeded seed = pcg64_of_seed (pcg32_seed 32 seed)

-- the high word, of which bits 12 to 15 are the version, 4
abbrev pub version_word : ℕ → ℕ
version_word high = high / 2 ^ 16 * 2 ^ 16 + 4 * 2 ^ 12 + high % 2 ^ 12

-- the low word, of which the two top bits are the variant, 2
abbrev pub variant_word : ℕ → ℕ
variant_word low = 2 * 2 ^ 62 + low % 2 ^ 62

-- the id of these words
abbrev pub id_of : ℕ → ℕ → ℕ
id_of high low = version_word high * 2 ^ 64 + variant_word low

-- the generator after the two words of an id
abbrev pub two_on : Lcg → Lcg
two_on g = (pcg64 (pcg64 g).1).1

-- the ids to come: the first is of the next two words, and the others of those after them
abbrev pub ids_from : Lcg → ℕ → ℕ
ids_from g zero = id_of (pcg64 g).0 (pcg64 (pcg64 g).1).0
ids_from g (suc n) = ids_from (two_on g) n
