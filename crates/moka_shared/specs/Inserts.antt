-- What an insert answers.
use Rattle.std.specs.Prelude.{◌≡◌, ℕ, Bool, Some, None}
use Rattle.std.specs.Option.{option_map}
use Rattle.moka_history.specs.Entries.{map_after}
use Rattle.moka_history.specs.Logs.{entries_of}
use Rattle.moka_shared.specs.declared.answers.Put.{Put}
use Rattle.moka_shared.specs.declared.answers.Put.TheVariants as put
use Rattle.moka_shared.specs.declared.answers.TryInsert.{TryInsert}
use Rattle.moka_shared.specs.declared.answers.TryInsert.TheVariants as insert
use Rattle.moka_shared.specs.declared.seat.Seat.{Seat}
use Rattle.moka_shared.specs.Changes.{Makes, Puts, entry_put}
use Rattle.moka_shelf.specs.Looks.{Hiding}
use Rattle.moka_shared.specs.Tables.{Table}

-- the fact holds of the value that stands there already
abbrev pub StandsSo : {V : Type 0} → (V → Type 0) → Put V → Type 0
StandsSo holds put.Done = Unit {0}
StandsSo holds (put.There found) = holds found
StandsSo holds (put.Missed missed) = Unit {0}
StandsSo holds put.Memory = Unit {0}

abbrev pub IsPresentSo : {K V : Type 0} → (V → Type 0) → TryInsert K V → Type 0
IsPresentSo holds insert.Inserted = Unit {0}
IsPresentSo holds (insert.Present found key value) = holds found
IsPresentSo holds (insert.Again missed key value) = Unit {0}
IsPresentSo holds (insert.Memory key value) = Unit {0}

module _ {K V S H D : Type 0} (eq : K → K → Bool) (place : S → ℕ → K → ℕ) (looked : H → Hiding)
    (t : Table S) (hash : ℕ) (key : K) (value : V) (old new : Seat K V S H D) where
  -- what became of a pair that was to be put where nothing stands
  abbrev pub Inserts : Put V → Type 0
  Inserts r = Puts eq place looked t hash old new (Makes old new (λ n. entry_put n key value None))
      (λ found. Some found ≡ option_map (λ p. p.1) (map_after eq (entries_of new.front.log) key)) r

  -- what an insert answers
  abbrev pub Answers : TryInsert K V → Type 0
  Answers insert.Inserted = Inserts put.Done
  Answers (insert.Present found k v) = (k ≡ key) × (v ≡ value) × Inserts (put.There found)
  Answers (insert.Again missed k v) = (k ≡ key) × (v ≡ value) × Inserts (put.Missed missed)
  Answers (insert.Memory k v) = (k ≡ key) × (v ≡ value) × Inserts put.Memory
