use Rattle.std.proofs.Common.{◌≡◌, ◌-◌, length}
use Rattle.moka_words.specs.Arrays.{first_free}
use Rattle.moka_calls.proofs.Laying.{free_after}
use Rattle.moka_calls.proofs.layout.first_free.Given as goal

abbrev pub invariant-loop-passed : goal.invariant-loop-passed
invariant-loop-passed l = first_free l.words l.hash ≡ free_after l.words l.hash l.passed (length l.words - l.passed)
