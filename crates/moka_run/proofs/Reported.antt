-- The text of a report, of what was run.
use Rattle.std.proofs.Common.{◌≡◌, ℕ, List, IsPermutation, nat_eq, refl}
use Rattle.std.specs.List.Sorted.{IsSortedByKey}
use Rattle.std.specs.Ordering.{nat_cmp}
use Rattle.moka_hist.specs.declared.notices.Notice.{Notice}
use Rattle.moka_hist.specs.declared.settings.Settings.{Settings}
use Rattle.moka_hist.specs.declared.events.Event.{Event}
use Rattle.moka_hist.specs.declared.records.Stored.{Stored}
use Rattle.moka_hist.specs.declared.replies.Reply.{Reply}
use Rattle.moka_hist.specs.declared.writes.Place.{Place}
use Rattle.moka_laws.specs.OwnKeys.{ReachedIsUnderOwnKeys}
use Rattle.moka_text.specs.ReportText.{report_text}
use Rattle.moka_run.specs.Playing.{RunsFresh, ReportsRun}
use Rattle.moka_run.specs.declared.report.Report.{Report}
use Rattle.moka_run.proofs.ByKey.{sorted_list}

-- a text of the replies, of the stored pairs sorted by key, and of the places reports the run
pub reported : (settings : Settings) (log : ℕ) (events : List (Event ℕ ℕ ℕ)) (report : Report ℕ ℕ ℕ) (sorted entries : List (ℕ × Stored ℕ)) (replies : List (Reply ℕ ℕ ℕ)) (places : List (ℕ × Place)) (notices : List (Notice ℕ ℕ)) (tests : List (ℕ × ℕ)) (text : List ℕ)
    → RunsFresh settings log events report → ReachedIsUnderOwnKeys ℕ ℕ ℕ nat_eq
    → IsPermutation report.entries sorted → IsSortedByKey (λ e. e.0) nat_cmp sorted
    → replies ≡ report.replies → entries ≡ sorted → places ≡ report.places → notices ≡ report.notices → tests ≡ report.tests
    → text ≡ report_text replies entries places notices tests → ReportsRun settings log events text
reported settings log events report sorted entries replies places notices tests text ran own all ascending same_replies same_entries same_places same_notices same_tests is =
    record {
      rules = ran.rules;
      ruled = ran.ruled;
      replies = report.replies;
      final = ran.final;
      run = ran.run;
      entries = sorted;
      stored = sorted_list report.entries sorted ran.final.world.table.stored ran.reports.entries (own ran.final ran.reached) all ascending;
      places = report.places;
      stand = ran.reports.places;
      notices = report.notices;
      noticed = ran.reports.notices;
      tests = report.tests;
      registered = ran.reports.tests;
      is = rw (is, same_replies, same_entries, same_places, same_notices, same_tests) refl;
    }
