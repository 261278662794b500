use Rattle.moka_growth.proofs.Elsewhere.{present_is_mine}
use Rattle.moka_growth.proofs.mapping.present_is_mine.Goals as goal

pub returns : goal.returns
returns c = record { mine = present_is_mine }
