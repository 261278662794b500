-- The bytes that are read are those of the list.
use Rattle.std.proofs.Common.{List, ℕ, ◌<◌, length, subst}
use Rattle.moka_text.specs.ScheduleText.{IsFirstBad}
use Rattle.moka_run.proofs.Due.{some_taken}
use Rattle.moka_run.proofs.answers.read_given.Goals as goal

pub returns-clause-bad_line : goal.returns-clause-bad_line
returns-clause-bad_line c = λ line e.
    subst (λ (bytes : List ℕ). IsFirstBad bytes line) c.deref.ensures.value (c.read_schedule.ensures.bad_line line e)

pub returns-clause-memory : goal.returns-clause-memory
returns-clause-memory c = λ e.
    subst (λ (bytes : List ℕ). 0 < length bytes) c.deref.ensures.value (some_taken _ (c.read_schedule.ensures.memory e))
