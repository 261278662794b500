-- What a row of steps comes to.
use Rattle.std.specs.Prelude.{List, [], ◌∷◌}

-- the state after a step for each item, in order
abbrev pub folded : {A B : Type 0} → (A → B → A) → A → List B → A
folded step state [] = state
folded step state (item ∷ items) = folded step (step state item) items
