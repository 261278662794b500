use Rattle.moka_growth.proofs.Lasts.{later_memory_goes_on}
use Rattle.moka_growth.proofs.lasting.later_memory_goes_on.Goals as goal

pub returns : goal.returns
returns c = record { later = later_memory_goes_on }
