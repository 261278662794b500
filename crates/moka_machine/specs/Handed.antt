-- What the cache of a machine is handed with its rules.
use Rattle.std.specs.Prelude.{ℕ}
use Rattle.moka_hist.specs.State.{Handed}
use Rattle.moka_hist.specs.declared.record_tests.Tests as Tests
use Rattle.moka_ids.specs.Drawn.{ids_from, seeded}

-- these tests and predicates, and the ids of this seed
abbrev pub handed_with : {K V T : Type 0} → Tests.Ghosts T K V → T → ℕ → Handed K V
handed_with q tests seed =
    record { tests = q.answers tests; predicates = q.hides tests; ids = ids_from (seeded seed) }
