use Rattle.std.proofs.Common.{◌≡◌, ◌++◌, take}
use Rattle.std.specs.Prelude.{flat_map}
use Rattle.std.specs.String.{string_bytes}
use Rattle.moka_text.specs.ReportText.{test_line}
use Rattle.moka_text.proofs.reports.push_tests.Given as goal

abbrev pub invariant-loop-test : goal.invariant-loop-test
invariant-loop-test l = string_bytes l.text ≡ string_bytes l.fn.text ++ flat_map test_line (take l.test-index l.tests)
