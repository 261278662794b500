-- What a run on a workload comes to.
use Rattle.std.specs.Prelude.{◌≡◌, ℕ, Bool, true, false, List, None, Some, length, count_by, nat_eq, codes}
use Rattle.moka_hist.specs.State.{State}
use Rattle.moka_hist.specs.declared.notices.Notice.{Notice}
use Rattle.moka_hist.specs.declared.records.Stored.{Stored}
use Rattle.moka_hist.specs.declared.settings.Settings.{Settings}
use Rattle.moka_hist.specs.declared.writes.Place.{Place}
use Rattle.moka_hist.specs.declared.writes.Place.TheVariants as place
use Rattle.moka_machine.specs.Listed.{tests_in}
use Rattle.moka_run.specs.Playing.{RunsFresh}
use Rattle.moka_run.specs.Report.{Reports}
use Rattle.moka_run.specs.declared.report.Report.{Report}
use Rattle.moka_summary.specs.Counts.{Counts, tally}
use Rattle.moka_summary.specs.SummaryText.{summary_text}
use Rattle.moka_summary.specs.declared.summary.Summary.{Summary}
use Rattle.moka_text.specs.ScheduleText.{IsCacheLine}
use Rattle.moka_workload.specs.Workload.{workload}

-- a dropped call left the write
abbrev pub is_owed : ℕ × Place → Bool
is_owed (n, place.Owed) = true
is_owed (n, _) = false

-- it is in the log
abbrev pub is_logged : ℕ × Place → Bool
is_logged (n, place.Logged) = true
is_logged (n, _) = false

-- maintenance has applied it
abbrev pub is_applied : ℕ × Place → Bool
is_applied (n, place.Applied) = true
is_applied (n, _) = false

-- the summary of so many turns: the counts of the replies, and the lengths of the lists. Writes that
-- a call holds are in none of its numbers.
abbrev pub summed : ℕ → Counts → List (ℕ × Stored ℕ) → List (ℕ × Place) → List (Notice ℕ ℕ) → Summary
summed turns replies entries places notices =
    record {
      turns = turns;
      replies = replies;
      entries = length entries;
      owed = count_by is_owed places;
      logged = count_by is_logged places;
      applied = count_by is_applied places;
      notices = length notices;
    }

-- the summary of these counts, and of what stands in the state
pub record Sums (turns : ℕ) (replies : Counts) (s : State ℕ ℕ ℕ) (summary : Summary) : Type 0 where
  pub entries : List (ℕ × Stored ℕ)
  pub places : List (ℕ × Place)
  pub notices : List (Notice ℕ ℕ)
  pub reports : Reports nat_eq entries places notices (tests_in s.world.desk) s
  pub is : summary ≡ summed turns replies entries places notices

-- the settings of the cache that a workload runs on: a time to live of 2000 nanoseconds, and a
-- listener
abbrev pub made_on : Settings
made_on =
    record {
      max_capacity = None;
      time_to_live = Some 2000;
      time_to_idle = None;
      listener = true;
      closures = false;
      seed = None;
    }

-- its log has room for so many writes
abbrev pub made_log : ℕ
made_log = 64

-- the cache is that of a schedule with this first line
abbrev pub MadeAsScheduled : Type 0
MadeAsScheduled = IsCacheLine (codes "cache log=64 ttl=2000 listener") made_log made_on

-- the summary of a report of a run on a workload
abbrev pub summary_of : ℕ → Report ℕ ℕ ℕ → Summary
summary_of turns report =
    summed turns (tally report.replies) report.entries report.places report.notices

-- The summary is of a report of a run from the fresh cache, through lawful states, on the workload of
-- so many turns and this seed.
pub record IsSummary (turns seed : ℕ) (summary : Summary) : Type 0 where
  pub report : Report ℕ ℕ ℕ
  pub runs : RunsFresh made_on made_log (workload turns seed) report
  pub is : summary ≡ summary_of turns report

-- the text is that of such a summary
pub record IsSummaryText (turns seed : ℕ) (text : List ℕ) : Type 0 where
  pub summary : Summary
  pub sums : IsSummary turns seed summary
  pub is : text ≡ summary_text summary

-- a workload comes to one summary
abbrev pub WorkloadsComeToOne : Type 0
WorkloadsComeToOne =
    (turns seed : ℕ) (a b : Summary) → IsSummary turns seed a → IsSummary turns seed b → a ≡ b
