-- The stacks that queries are kept as.
use Rattle.std.specs.Prelude.{ℕ, nat_eq, Bool, true, false, List, [], ◌∷◌, ◌++◌, Option, Some, None}
use Rattle.std.specs.HashMap.{get, hash_map_len}
use Rattle.std.specs.Option.{option_map}
use Rattle.moka_evaluator.specs.Evaluator.{Stack}
use Rattle.moka_evaluator.specs.declared.frames.Frame.{Frame}
use Rattle.moka_stacks.specs.declared.queries.Queries.{Queries}
use Rattle.moka_stacks.specs.declared.queries.Query.{Query}

-- frames from the last to the first
abbrev pub nearest_first : List Frame → List Frame
nearest_first [] = []
nearest_first (f ∷ fs) = nearest_first fs ++ f ∷ []

-- the stack that a query is kept as
abbrev pub stack_of : Query → Stack
stack_of query = record { top = query.top; below = nearest_first query.below.items }

-- the stack of the query, if that is live
abbrev pub stack_at : Queries → ℕ → Option Stack
stack_at queries q = option_map stack_of (get nat_eq queries.map q)

-- how many are live
abbrev pub count_of : Queries → ℕ
count_of queries = hash_map_len queries.map

-- the stack, if there is one
abbrev pub kept_if : Bool → Stack → Option Stack
kept_if true s = Some s
kept_if false s = None
