-- Calls that wait, and are listed once each.
use Rattle.std.specs.Prelude.{◌≡◌, ℕ, ◌≤◌, ◌==◌, ◌||◌, Bool, true, false, cond, List, [], ◌∷◌, ◌++◌}
use Rattle.moka_hist.specs.Finite.{times}

-- what a wait list is seen as: the calls that wait, the first to be listed first, and how many more
-- can be listed without memory
pub record Waiting : Type 0 where
  pub calls : List ℕ
  pub room : ℕ

-- the call stands in the list
abbrev pub waits : ℕ → List ℕ → Bool
waits call [] = false
waits call (x ∷ xs) = call == x || waits call xs

-- the list without the call
abbrev pub without : ℕ → List ℕ → List ℕ
without call [] = []
without call (x ∷ xs) = cond (call == x) (without call xs) (x ∷ without call xs)

-- the list once the call is listed: at its end, and as it was where the call stood in it already
pub record IsListed (old new : List ℕ) (call : ℕ) : Type 0 where
  pub again : waits call old ≡ true → new ≡ old
  pub first : waits call old ≡ false → new ≡ old ++ call ∷ []

-- no call stands in the list twice
abbrev pub AreOnce : List ℕ → Type 0
AreOnce calls = (call : ℕ) → times call calls ≤ 1
