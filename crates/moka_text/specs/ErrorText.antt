-- The text of a schedule's error.
use Rattle.std.specs.Prelude.{ℕ, List, ◌++◌, codes, decimal}
use Rattle.moka_text.specs.declared.schedules.ScheduleError.{ScheduleError}
use Rattle.moka_text.specs.declared.schedules.ScheduleError.TheVariants as errors

-- the bad line's number, or that memory ran out
abbrev pub error_text : ScheduleError → List ℕ
error_text (errors.BadLine line) = codes "line " ++ decimal line ++ codes " is bad"
error_text errors.Memory = codes "out of memory"
