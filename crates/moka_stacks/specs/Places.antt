-- What places say: who evaluates a rule, and who waits for it.
use Rattle.std.specs.Prelude.{ℕ, nat_eq, List, [], Option}
use Rattle.std.specs.HashMap.{get}
use Rattle.std.specs.Option.{option_map, option_map_or}
use Rattle.moka_stacks.specs.declared.places.Places.{Places}

-- the query that evaluates the rule
abbrev pub owner_at : Places → ℕ → Option ℕ
owner_at places r = option_map (λ place. place.owner) (get nat_eq places.map r)

-- the queries that wait for it
abbrev pub line_at : Places → ℕ → List ℕ
line_at places r = option_map_or (λ place. place.line.items) (get nat_eq places.map r) []
