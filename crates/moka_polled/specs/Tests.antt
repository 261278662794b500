-- Tests and predicates of which none holds.
use Rattle.std.specs.Prelude.{ℕ, Bool, false}
use Rattle.moka_hist.specs.State.{Handed}
use Rattle.moka_hist.specs.declared.record_tests.Tests as Tests
use Rattle.moka_ids.specs.Drawn.{ids_from, seeded}
use Rattle.moka_polled.specs.declared.no_tests.NoTests.{NoTests}

-- no test and no predicate holds
abbrev pub no_test : {K V : Type 0} → ℕ → K → V → Bool
no_test number key value = false

-- what contracts see of tests and predicates of which none holds
abbrev pub no_tests : {K V : Type 0} → Tests.Ghosts NoTests K V
no_tests = record { answers = λ it. no_test; hides = λ it. no_test }

-- a cache is handed them, and the ids of seed 0, of which none is drawn
abbrev pub none_handed : {K V : Type 0} → Handed K V
none_handed = record { tests = no_test; predicates = no_test; ids = ids_from (seeded 0) }
