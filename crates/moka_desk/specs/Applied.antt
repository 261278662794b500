-- What is kept of the applied writes.
use Rattle.std.specs.Prelude.{◌≡◌, true, List}
use Rattle.moka_hist.specs.Visits.{is_replaced}
use Rattle.moka_hist.specs.declared.writes.Write.{Write}
use Rattle.moka_desk.specs.Records.{RecordsAre}
use Rattle.moka_desk.specs.declared.applied.Applied.{Applied}

-- The records that stand are kept, and with a history the writes.
pub record AppliedAre (applied : Applied) (writes : List Write) : Type 0 where
  pub records : RecordsAre applied.records writes (is_replaced writes)
  pub history : applied.history ≡ true → applied.writes.items ≡ writes

-- nothing has changed of what is kept
abbrev pub AppliedStays : Applied → Applied → Type 0
AppliedStays old new = (writes : List Write) → AppliedAre old writes → AppliedAre new writes
