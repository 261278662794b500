use Rattle.moka_callers.proofs.Answering.{see_writes}
use Rattle.moka_callers.proofs.reading.reads_see_writes.Goals as goal

pub returns : goal.returns
returns g c = record { sees = see_writes g.K.PartialEq.eq }
