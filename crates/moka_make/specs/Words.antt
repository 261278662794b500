-- The words of `make`.
use Rattle.std.specs.Prelude.{◌≡◌, ℕ, ◌^◌, ◌<◌, ◌≤◌, List, [], ◌∷◌, map, codes, decimal}
use Rattle.std.specs.String.{string_bytes}
use Rattle.std.specs.declared.string.String.{String}
use Rattle.std.specs.declared.alloc.Global.{Global}

-- the bytes spell so many turns: from 1 to 200,000
pub record IsTurns (bytes : List ℕ) (turns : ℕ) : Type 0 where
  pub spelled : bytes ≡ decimal turns
  pub some : 1 ≤ turns
  pub few : turns ≤ 200000

-- the bytes spell the seed, which is of 64 bits
pub record IsSeed (bytes : List ℕ) (seed : ℕ) : Type 0 where
  pub spelled : bytes ≡ decimal seed
  pub fits : seed < 2 ^ 64

-- the words of the command line ask for so many turns of the workload of this seed
pub record AsksFor (words : List (String Global)) (turns seed : ℕ) : Type 0 where
  pub spelled : map string_bytes words ≡ codes "make" ∷ decimal turns ∷ decimal seed ∷ []
  pub some : 1 ≤ turns
  pub few : turns ≤ 200000
  pub fits : seed < 2 ^ 64

-- the words of the command line are those of a make
abbrev pub IsMake : List (String Global) → Type 0
IsMake words = (turns : ℕ) × (seed : ℕ) × AsksFor words turns seed

-- the words of a command line ask for one thing
abbrev pub WordsAskForOne : Type 0
WordsAskForOne =
    (words : List (String Global)) (turns turns' seed seed' : ℕ)
    → AsksFor words turns seed → AsksFor words turns' seed'
    → (turns ≡ turns') × (seed ≡ seed')
