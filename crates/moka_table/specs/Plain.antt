-- The plain table: a hash map from each key to its stored pair.
use Rattle.std.specs.Prelude.{◌≡◌, ◌≢◌, ℕ, max, Bool, List, None}
use Rattle.std.specs.HashMap.{get, hash_map_len}
use Rattle.moka_table.specs.Map.{IsList, Pairs, longest}
use Rattle.moka_table.specs.declared.plain.PlainTable.{PlainTable}
use Rattle.moka_table.specs.declared.plain.PlainCall.{PlainCall}
use Rattle.moka_table.specs.declared.table.Table as Table

-- the stored pair of each key
abbrev pub map_of : {K V S H : Type 0} → (K → K → Bool) → PlainTable K V S H → Pairs K V
map_of eq t q = get eq t.pairs q

-- the most keys that there were at once: before its latest removal, or now
abbrev pub peak_of : {K V S H : Type 0} → PlainTable K V S H → ℕ
peak_of t = max t.most (hash_map_len t.pairs)

-- it has no arrays: the least that a first array may be
abbrev pub plain_first : ℕ
plain_first = 128

-- an operation decides at its one step
abbrev pub plain_left : ℕ
plain_left = 1

-- how many parts there are, and the part of each key
abbrev pub plain_parts : ℕ
plain_parts = 1

abbrev pub plain_part : {K : Type 0} → K → ℕ
plain_part key = 0

abbrev pub IsOfPart : {K : Type 0} → ℕ → K → Type 0
IsOfPart part key = plain_part key ≡ part

-- a call that hasn't decided has listed no key, and has yet to come to each
abbrev pub NoneListed : {K : Type 0} → K → Type 0
NoneListed key = ⊥

abbrev pub AllCovered : {K : Type 0} → K → Type 0
AllCovered key = Unit {0}

-- these are the keys of the part
abbrev pub IsPlainList : {K V S H : Type 0} → (K → K → Bool) → PlainTable K V S H → ℕ → List K →
    Type 0
IsPlainList eq t part keys =
    IsList eq (map_of eq t) (IsOfPart part) NoneListed AllCovered
    (longest plain_first (peak_of t)) keys

-- what contracts see of a plain table
abbrev pub plain_table : {K V S H : Type 0} → (K → K → Bool) →
    Table.Ghosts (PlainTable K V S H) K V (PlainCall K V)
plain_table eq =
    record {
      map = map_of eq;
      count = λ t. hash_map_len t.pairs;
      peak = peak_of;
      first = λ t. plain_first;
      operation_of = λ c. c.operation;
      fits = λ t c. c.operation ≢ None;
      left = λ t c. plain_left;
      divided = λ t. plain_parts;
      part_of = λ t. plain_part;
      listed = λ t c. NoneListed;
      covers = λ t c. AllCovered;
    }
