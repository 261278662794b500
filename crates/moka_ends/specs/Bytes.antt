-- Bytes that a source has left or a sink was written, where they are told.
use Rattle.std.specs.Prelude.{◌≡◌, ℕ, ◌<◌, List, [], ◌++◌, length, Option, None, Some, IfSome}

-- what was left before these bytes were taken, where what is left after them is told
abbrev pub with_front : List ℕ → Option (List ℕ) → Option (List ℕ)
with_front bytes None = None
with_front bytes (Some rest) = Some (bytes ++ rest)

-- the source gave these bytes, the next that it had left, and keeps the rest
abbrev pub Gives : Option (List ℕ) → List ℕ → Option (List ℕ) → Type 0
Gives old bytes new = old ≡ with_front bytes new

-- the source, where it tells, has nothing left
abbrev pub IsSpent : Option (List ℕ) → Type 0
IsSpent left = IfSome left (λ bytes. bytes ≡ [])

-- the source, where it tells, had more than so many bytes left
abbrev pub HasMoreThan : ℕ → Option (List ℕ) → Type 0
HasMoreThan most left = IfSome left (λ bytes. most < length bytes)

-- the source gave all that it had left, these bytes, or tells neither before nor after
abbrev pub GivesAll : Option (List ℕ) → List ℕ → Option (List ℕ) → Type 0
GivesAll None bytes new = new ≡ None
GivesAll (Some left) bytes new = (left ≡ bytes) × (new ≡ Some [])

-- the source gave some bytes off the front, and keeps the rest
abbrev pub GivesSome : Option (List ℕ) → Option (List ℕ) → Type 0
GivesSome old new = (bytes : List ℕ) × Gives old bytes new

-- what is written after these bytes, where it was told before
abbrev pub with_end : Option (List ℕ) → List ℕ → Option (List ℕ)
with_end None bytes = None
with_end (Some before) bytes = Some (before ++ bytes)

-- the sink, where it tells, was written these bytes after all that it was written before
abbrev pub Extends : Option (List ℕ) → List ℕ → Option (List ℕ) → Type 0
Extends old bytes new = IfSome new (λ now. with_end old bytes ≡ Some now)
