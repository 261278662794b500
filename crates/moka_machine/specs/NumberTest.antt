-- The tests and predicates that the numbers of a schedule name.
use Rattle.std.specs.Prelude.{ℕ, ◌%◌, ◌==◌, Bool, not, ◌&&◌}
use Rattle.moka_hist.specs.declared.record_tests.Tests as Tests
use Rattle.moka_machine.specs.declared.number_tests.NumberTests.{NumberTests}

-- a number other than 0 divides the value
abbrev pub is_divided : ℕ → ℕ → Bool
is_divided test value = not (test == 0) && (value % test == 0)

-- test 0 never holds; any other holds where it divides the value
abbrev pub number_test : ℕ → ℕ → ℕ → Bool
number_test test key value = is_divided test value

-- what contracts see of them
abbrev pub number_tests : Tests.Ghosts NumberTests ℕ ℕ
number_tests = record { answers = λ it. number_test; hides = λ it. number_test }
