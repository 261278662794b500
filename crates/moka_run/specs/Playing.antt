-- What `play` reads and writes.
use Rattle.std.specs.Prelude.{◌≡◌, ℕ, ◌<◌, ◌≤◌, List, length, nat_eq, codes, Option, unwrap_or}
use Rattle.std.specs.List.Sorted.{IsStrictlyIncreasing}
use Rattle.std.specs.Map.{lookup, keys_of}
use Rattle.std.specs.Option.{option_map}
use Rattle.std.specs.declared.string.String.{String}
use Rattle.std.specs.declared.alloc.Global.{Global}
use Rattle.moka_hist.specs.State.{Handed, State, fresh}
use Rattle.moka_hist.specs.Places.{IsLawful}
use Rattle.moka_hist.specs.Run.{Run, IsReached}
use Rattle.moka_hist.specs.Settings.{AreRulesOf}
use Rattle.moka_hist.specs.declared.rules.Rules.{Rules}
use Rattle.moka_hist.specs.declared.settings.Settings.{Settings}
use Rattle.moka_hist.specs.declared.notices.Notice.{Notice}
use Rattle.moka_hist.specs.declared.events.Event.{Event}
use Rattle.moka_hist.specs.declared.records.Stored.{Stored}
use Rattle.moka_hist.specs.declared.replies.Reply.{Reply}
use Rattle.moka_hist.specs.declared.writes.Place.{Place}
use Rattle.moka_ids.specs.Drawn.{ids_from, seeded}
use Rattle.moka_table.specs.Map.{Pairs}
use Rattle.moka_text.specs.ReportText.{report_text}
use Rattle.moka_text.specs.ScheduleText.{Says, IsFirstBad}
use Rattle.moka_machine.specs.NumberTest.{number_test}
use Rattle.moka_machine.specs.TheTable.{the_division}
use Rattle.moka_machine.specs.Listed.{AreNotices, ArePlaces, tests_in}
use Rattle.moka_run.specs.Report.{Reports}
use Rattle.moka_run.specs.declared.report.Report.{Report}
use Rattle.moka_lines.specs.Programs.{IsWord, ReadsAll, WritesAnswer, WritesFront, Responds, BreaksOff, EndsAs, most_bytes}
use Rattle.moka_lines.specs.declared.status.Status.{Status}
use Rattle.moka_lines.specs.declared.status.Status.TheVariants as status
use Rattle.moka_text.specs.declared.schedules.ScheduleError.{ScheduleError}
use Rattle.moka_text.specs.declared.schedules.ScheduleError.TheVariants as schedule

-- the words of the command line are the one word that `play` takes
abbrev pub IsPlay : List (String Global) → Type 0
IsPlay = IsWord (codes "play")

-- the entries are what the map has: at each key the record that is stored there, ascending by key
pub record ListsByKey (entries : List (ℕ × Stored ℕ)) (stored : Pairs ℕ ℕ) : Type 0 where
  pub each : (key : ℕ) → lookup (nat_eq key) entries ≡ option_map (λ p. p.1) (stored key)
  pub ascending : IsStrictlyIncreasing (keys_of entries)

-- what the cache of a schedule is handed: replace tests and predicates of the same numbers, and the
-- ids of this seed, of 0 where none is set
abbrev pub numbers_handed : Option ℕ → Handed ℕ ℕ
numbers_handed seed =
    record {
      tests = number_test;
      predicates = number_test;
      ids = ids_from (seeded (unwrap_or seed 0));
    }

-- What was run on a fresh cache of rules that are of these settings, with a log of this size and the
-- ids of their seed, is to be reported so.
pub record RunsFresh (settings : Settings) (log : ℕ) (events : List (Event ℕ ℕ ℕ))
    (report : Report ℕ ℕ ℕ) : Type 0 where
  pub rules : Rules
  pub ruled : AreRulesOf settings rules
  pub final : State ℕ ℕ ℕ
  pub run : Run nat_eq (IsLawful nat_eq)
      (fresh ℕ ℕ ℕ (the_division ℕ) rules log (numbers_handed settings.seed)) events report.replies final
  pub reports : Reports nat_eq report.entries report.places report.notices report.tests final
  pub reached : IsReached nat_eq final

-- The text reports a run of the reference cache on the events, from a fresh cache of rules that are
-- of these settings, with a log of this size and the ids of their seed, in which each state is lawful:
-- its replies, and what stands after it.
pub record ReportsRun (settings : Settings) (log : ℕ) (events : List (Event ℕ ℕ ℕ))
    (text : List ℕ) : Type 0 where
  pub rules : Rules
  pub ruled : AreRulesOf settings rules
  pub replies : List (Reply ℕ ℕ ℕ)
  pub final : State ℕ ℕ ℕ
  pub run : Run nat_eq (IsLawful nat_eq)
      (fresh ℕ ℕ ℕ (the_division ℕ) rules log (numbers_handed settings.seed)) events replies final
  pub entries : List (ℕ × Stored ℕ)
  pub stored : ListsByKey entries final.world.table.stored
  pub places : List (ℕ × Place)
  pub stand : ArePlaces places final
  pub notices : List (Notice ℕ ℕ)
  pub noticed : AreNotices notices final
  pub tests : List (ℕ × ℕ)
  pub registered : tests ≡ tests_in final.world.desk
  pub is : text ≡ report_text replies entries places notices tests

-- the text is the report of the schedule that the bytes say
pub record IsReport (bytes text : List ℕ) : Type 0 where
  pub log : ℕ
  pub settings : Settings
  pub events : List (Event ℕ ℕ ℕ)
  pub says : Says bytes log settings events
  pub report : ReportsRun settings log events text

-- the report of the schedule that the bytes say was written, the whole of it
abbrev pub WritesReport : (bytes : List ℕ) (old new : Option (List ℕ)) → Type 0
WritesReport = WritesAnswer IsReport

-- some bytes off the front of that report were written, or none
abbrev pub WritesReportFront : (bytes : List ℕ) (old new : Option (List ℕ)) → Type 0
WritesReportFront = WritesFront IsReport

-- the source was read to its end, and the whole report of its schedule was written
abbrev pub Plays : (left left' written written' : Option (List ℕ)) → Type 0
Plays = Responds IsReport

-- the source was read to its end, and the front of the report of its schedule was written
abbrev pub PlaysFront : (left left' written written' : Option (List ℕ)) → Type 0
PlaysFront = BreaksOff IsReport

-- the source was read to its end, and this is the first of its lines that is not in the grammar
pub record FindsBadLine (left left' : Option (List ℕ)) (line : ℕ) : Type 0 where
  pub bytes : List ℕ
  pub read : ReadsAll left bytes left'
  pub first : IsFirstBad bytes line

-- no text both says a schedule and has a bad line
abbrev pub SaysOrIsBad : Type 0
SaysOrIsBad =
    (text : List ℕ) (log : ℕ) (settings : Settings) (events : List (Event ℕ ℕ ℕ)) (line : ℕ)
    → Says text log settings events → IsFirstBad text line → ⊥

-- How a play of these bytes is due to end: too long where they are, at the first bad line where
-- there is one, and done where they say a schedule.
pub record IsDue (bytes : List ℕ) (ended : Status) : Type 0 where
  pub too_long : most_bytes < length bytes → EndsAs status.TooLong ended
  pub bad_line : (line : ℕ) → length bytes ≤ most_bytes → IsFirstBad bytes line
      → EndsAs (status.BadLine line) ended
  pub done : (log : ℕ) (settings : Settings) (events : List (Event ℕ ℕ ℕ))
      → length bytes ≤ most_bytes → Says bytes log settings events → EndsAs status.Done ended

-- the status where a schedule can't be answered for this reason
abbrev pub status_of_schedule : ScheduleError → Status
status_of_schedule (schedule.BadLine line) = status.BadLine line
status_of_schedule schedule.Memory = status.Memory
