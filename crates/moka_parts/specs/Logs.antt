-- The log of a book: the hash builder that it was opened for, and then the changes.
use Rattle.std.specs.Prelude.{◌≡◌, ℕ, Bool, List, [], ◌∷◌, ◌++◌, map, Option}
use mathlib.Core.List.{IsPrefix}
use Rattle.moka_parts.specs.declared.change.Change.{Change}
use Rattle.moka_parts.specs.declared.note.Note.{Note}
use Rattle.moka_parts.specs.declared.note.Note.TheVariants.{Opened, Changed, Nothing}
use Rattle.moka_parts.specs.Changes.{map_after, IsLegal, count_of}

module _ {K V S : Type 0} where
  -- the changes that a log has
  abbrev pub changes_in : List (Note K V S) → List (Change K V)
  changes_in [] = []
  changes_in (Opened s ∷ log) = changes_in log
  changes_in (Changed c ∷ log) = c ∷ changes_in log
  changes_in (Nothing ∷ log) = changes_in log

  -- the book was opened for this hash builder, and the rest of its log are changes
  abbrev pub IsOpenedFor : S → List (Note K V S) → Type 0
  IsOpenedFor s log = log ≡ Opened s ∷ map Changed (changes_in log)

  -- a log of some hash builder, whose history is legal
  pub record IsLog (eq : K → K → Bool) (log : List (Note K V S)) : Type 0 where
    pub hasher : S
    pub opened : IsOpenedFor hasher log
    pub legal : IsLegal eq (changes_in log)

  -- a log of this hash builder, whose history is legal and has so many changes of the part
  pub record Counts (eq : K → K → Bool) (part : S → K → ℕ) (s : S) (number count : ℕ)
      (log : List (Note K V S)) : Type 0 where
    pub opened : IsOpenedFor s log
    pub count_is : count ≡ count_of (part s) number (changes_in log)
    pub legal : IsLegal eq (changes_in log)

  -- some beginning of the log has so many changes of the part, to which the key belongs, and this
  -- pair stands there at the key
  pub record Stands (eq : K → K → Bool) (part : S → K → ℕ) (s : S) (number count : ℕ)
      (key : K) (found : Option (K × V)) (log : List (Note K V S)) : Type 0 where
    pub front : List (Note K V S)
    pub begins : IsPrefix front log
    pub seen : Counts eq part s number count front
    pub here : part s key ≡ number
    pub before : found ≡ map_after eq (changes_in front) key

  -- the change was added to a log that begins with the old one, and the part has so many then
  pub record Grows (eq : K → K → Bool) (part : S → K → ℕ) (number count : ℕ) (c : Change K V)
      (old new : List (Note K V S)) : Type 0 where
    pub log : List (Note K V S)
    pub begins : IsPrefix old log
    pub new_is : new ≡ log ++ Changed c ∷ []
    pub hasher : S
    pub counts : Counts eq part hasher number count new
