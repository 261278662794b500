-- The lines that a program writes.
use Rattle.std.specs.Prelude.{ℕ, List, [], ◌∷◌, ◌++◌}

-- a line's words and its end
abbrev pub ended : List ℕ → List ℕ
ended words = words ++ 10 ∷ []
