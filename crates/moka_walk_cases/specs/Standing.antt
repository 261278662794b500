-- Layers on which walks go.
use Rattle.std.specs.Prelude.{◌≤◌, ℕ, nat_eq, Bool, false, Option, IfSome}
use Rattle.std.specs.declared.cmp.PartialEq as PartialEq
use Rattle.std.specs.declared.hash.Hash as Hash
use Rattle.std.specs.declared.hash.Hasher as Hasher
use Rattle.std.specs.declared.hash.BuildHasher as BuildHasher
use Rattle.moka_hist.specs.State.{Handed, World}
use Rattle.moka_hist.specs.declared.record_tests.Tests as Tests
use Rattle.moka_ids.specs.Drawn.{ids_from, seeded}
use Rattle.moka_table.specs.Map.{most_steps}
use Rattle.moka_table.specs.declared.table.Table as Table
use Rattle.moka_layers.specs.Layers.{GroundIs}
use Rattle.moka_layers.specs.declared.layers.Layers.{Layers}
use Rattle.moka_walk_cases.specs.declared.no_tests.NoTests.{NoTests}

-- no test and no predicate holds
abbrev pub no_test : ℕ → ℕ → ℕ → Bool
no_test number key value = false

abbrev pub no_tests : Tests.Ghosts NoTests ℕ ℕ
no_tests = record { answers = λ it. no_test; hides = λ it. no_test }

-- what the layers are handed: these, and the ids of seed 0, of which a walk draws none
abbrev pub no_tests_handed : Handed ℕ ℕ
no_tests_handed = record { tests = no_test; predicates = no_test; ids = ids_from (seeded 0) }

-- the layers stand for some world
abbrev pub Stands : {T C S H : Type 0} {same : PartialEq.Ghosts ℕ} {hash : Hash.Ghosts ℕ}
    {build : BuildHasher.Ghosts S H} {hasher : Hasher.Ghosts H} → Table.Ghosts T ℕ ℕ C
    → Layers ℕ ℕ ℕ T C NoTests S H same hash build hasher → Type 0
Stands t layers = (w : World ℕ ℕ ℕ) × GroundIs nat_eq t no_tests layers w

-- what was begun on the table goes on there, for no longer than an operation may
abbrev pub MayGoOn : {T C : Type 0} → Table.Ghosts T ℕ ℕ C → T → Option C → Type 0
MayGoOn t table begun =
    IfSome begun (λ c. t.fits table c × (t.left table c ≤ most_steps (t.first table) (t.peak table)))
