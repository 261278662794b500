-- How long a call may go on by itself.
use Rattle.std.specs.Prelude.{ℕ, ◌+◌, ◌-◌, ◌*◌, ◌^◌, ◌==◌, Bool, true, false, min, cond, length}
use Rattle.std.specs.Option.{option_map_or}
use Rattle.moka_hist.specs.Plan.{walks}
use Rattle.moka_hist.specs.State.{State, Stay, TablePart}

-- how many steps in a row the operation of this call has stayed undecided, where no other call
-- stepped on the table since
abbrev pub times_of : Stay → ℕ → ℕ
times_of stay n = cond (stay.call == n) stay.times 0

-- once more the operation of this call stayed undecided
abbrev pub stayed : Stay → ℕ → Stay
stayed stay n = record { call = n; times = times_of stay n + 1 }

-- the operation of this call decided
abbrev pub decided_by : ℕ → Stay
decided_by n = record { call = n; times = 0 }

-- a number of steps as it is told: 64 bits hold it, and the greatest such number stands for all
-- that are greater
abbrev pub as_told : ℕ → ℕ
as_told steps = min steps (2 ^ 64 - 1)

module _ {K V : Type 0} where
  -- how long an array of the table may be: 128 words, and three for each of the most keys that were
  -- ever stored
  abbrev pub array_bound : TablePart K V → ℕ
  array_bound t = 128 + 3 * t.peak

  -- how many steps in a row an operation may stay undecided, as long as no other call steps on the
  -- table
  abbrev pub most_undecided : TablePart K V → ℕ
  most_undecided t = 16 * array_bound t + 32

module _ {K V : Type 0} where
  -- what table operations add to the bound of a call: of one that walks, some for each key of a list
  abbrev pub table_share : TablePart K V → Bool → ℕ
  table_share t false = array_bound t
  table_share t true = 64 * array_bound t + array_bound t * array_bound t

-- the call of this number walks: it has a list to make, a key to look up or a record to judge
abbrev pub does_walk : {K V E : Type 0} → State K V E → ℕ → Bool
does_walk s n = option_map_or (λ c. walks c.plan) (s.calls n) false

-- fewer steps than these the call makes by itself from this state on, each of which leaves it going
abbrev pub step_bound : {K V E : Type 0} → State K V E → ℕ → ℕ
step_bound s n =
    let share : ℕ = table_share s.world.table (does_walk s n) in
    64 *
    (4 + share + length s.world.desk.owed + length s.world.desk.log + length s.world.desk.registered)
