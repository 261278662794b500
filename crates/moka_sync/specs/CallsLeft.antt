-- What an iterator over calls has left.
use Rattle.std.specs.Prelude.{ℕ, List, map, ◌++◌}
use Rattle.moka_sync.specs.declared.call_list.Calls.{Calls}

-- the calls that it has left
abbrev pub calls_left : Calls → List ℕ
calls_left s = map (λ p. p.call) (s.places ++ s.more)
