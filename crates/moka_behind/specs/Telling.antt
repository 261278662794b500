-- Whose a value is that a get answers.
use Rattle.std.specs.Prelude.{◌≡◌, ℕ, unwrap_or}
use Rattle.moka_keepers.specs.Owing.{Truth, true_pairs}
use Rattle.moka_keepers.specs.Writes.{last_of}

-- what is true of a key: what its last write left, and where there is none, what the keeper had at
-- the start
abbrev pub TruthIsOfTheLastWrite : Type 0
TruthIsOfTheLastWrite =
    (truth : Truth) (key : ℕ) →
    true_pairs truth key ≡ unwrap_or (last_of key truth.writes) (truth.start key)
