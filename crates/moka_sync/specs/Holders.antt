-- Who holds a lock, and who waits for it.
use Rattle.std.specs.Prelude.{ℕ, ◌==◌, ◌||◌, Bool, false, not, List, [], ◌∷◌, Option, None, Some}
use Rattle.moka_sync.specs.Waiting.{waits}

-- what a mutex is seen as: the call that holds it, those that wait, in order, and how many more can
-- be listed without memory
pub record MutexState : Type 0 where
  pub holder : Option ℕ
  pub waiting : List ℕ
  pub room : ℕ

-- what a lock for readers and a writer is seen as, likewise
pub record RwState : Type 0 where
  pub writer : Option ℕ
  pub readers : List ℕ
  pub waiting : List ℕ
  pub room : ℕ

-- the call is the one that holds
abbrev pub is_holder : Option ℕ → ℕ → Bool
is_holder None call = false
is_holder (Some holder) call = holder == call

-- another call holds
abbrev pub is_others : Option ℕ → ℕ → Bool
is_others None call = false
is_others (Some holder) call = not (holder == call)

-- another call is among the readers
abbrev pub has_others : ℕ → List ℕ → Bool
has_others call [] = false
has_others call (x ∷ xs) = not (call == x) || has_others call xs

-- the call holds the lock, to write or to read
abbrev pub holds : RwState → ℕ → Bool
holds state call = is_holder state.writer call || waits call state.readers

-- another call holds the lock, to write or to read
abbrev pub is_held_by_others : RwState → ℕ → Bool
is_held_by_others state call = is_others state.writer call || has_others call state.readers
