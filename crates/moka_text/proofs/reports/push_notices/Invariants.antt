use Rattle.std.proofs.Common.{◌≡◌, ◌++◌, take}
use Rattle.std.specs.Prelude.{flat_map}
use Rattle.std.specs.String.{string_bytes}
use Rattle.moka_text.specs.ReportText.{notice_line}
use Rattle.moka_text.proofs.reports.push_notices.Given as goal

abbrev pub invariant-loop-notice : goal.invariant-loop-notice
invariant-loop-notice l = string_bytes l.text ≡ string_bytes l.fn.text ++ flat_map notice_line (take l.notice-index l.notices)
