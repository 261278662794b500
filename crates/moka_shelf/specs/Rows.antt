-- How a shelf is laid out. A number lies at the place that comes 32 after it. The first twelve rows
-- are as long as their first place: 32, 64, and so on up to 65,536. From the place 131,072 on each
-- row has 65,536 places. Those with numbers below 256 are found at once, and further ones in groups.
use Rattle.std.specs.Prelude.{◌≡◌, ◌<◌, ℕ, ◌+◌, ◌*◌, ◌^◌, List, length}
use Rattle.boxcar.specs.Slot.{Named}
use Rattle.boxcar.specs.Table.{span, Tagged}

-- the slots have the places from this one on, each in its tag, before the names of the table
abbrev pub From : List ℕ → ℕ → List Named → Type 0
From names place slots = Tagged names place (length slots) slots

-- the first rows have the numbers from 0, and so have the near rows and the groups of others
abbrev pub AreRows : List ℕ → (first near later : List Named) → Type 0
AreRows names first near later =
    Tagged names 0 12 first × Tagged names 0 256 near × Tagged names 0 48 later

-- the offset in the first row of this number is that of the place
abbrev pub IsInFirst : ℕ → ℕ → ℕ → Type 0
IsInFirst place row offset = (row < 12) × (span row + offset ≡ place)

-- the offset in the later row of this number is that of the place
abbrev pub IsInLater : ℕ → ℕ → ℕ → Type 0
IsInLater place row offset = row * 65536 + offset ≡ place

-- the row of this number is at this place of this group of rows
abbrev pub IsInGroup : ℕ → ℕ → ℕ → Type 0
IsInGroup row group at = (group < 48) × (2 ^ group + at ≡ row)
