-- A workload as it is made, turn by turn.
use Rattle.std.specs.Prelude.{ℕ, ◌+◌, ◌*◌, ◌≡◌, ◌≤◌}
use Rattle.rand_pcg.specs.Lcg.{Lcg}
use Rattle.moka_workload.specs.Turns.{calls_in}
use Rattle.moka_workload.specs.Words.{after_words}
use Rattle.moka_workload.specs.Workload.{workload}

-- how many turns of the workload of this seed were made
pub record Made : Type 0 where
  pub seed : ℕ
  pub turns : ℕ

-- so many turns of the seed's workload were made: the generator has given a word for each of them,
-- and the next call's number goes by how many calls they start
pub record GoesBy (seed turns : ℕ) (words : Lcg) (call : ℕ) : Type 0 where
  pub drawn : words ≡ after_words seed turns
  pub counted : call ≡ calls_in (workload turns seed) + 1
  pub few : call ≤ 3 * turns + 1
