-- The text is of what was run, with the entries sorted.
use Rattle.std.specs.String.{string_bytes}
use Rattle.std.proofs.lemmas.Result.{IfOk-weaker}
use Rattle.moka_run.specs.Playing.{ReportsRun}
use Rattle.moka_run.proofs.Reported.{reported}
use Rattle.moka_run.proofs.answers.report_on.Goals as goal

pub returns : goal.returns
returns c =
    IfOk-weaker c.write_report.result _ (λ text. ReportsRun c.args.settings c.args.log c.args.events.items (string_bytes text))
    (λ text is. reported c.args.settings c.args.log c.args.events.items c.in_ok-report.report c.sorted-entries.result.items c.deref.result.now
    c.as_slice.result.now c.as_slice-2.result.now c.as_slice-3.result.now c.as_slice-4.result.now (string_bytes text) c.in_ok-report.ensures c.stored_under_own_keys.ensures.stored
    c.sorted-entries.ensures.all c.sorted-entries.ensures.ascending c.as_slice.ensures c.deref.ensures.value c.as_slice-2.ensures c.as_slice-3.ensures c.as_slice-4.ensures is)
    c.write_report.ensures
