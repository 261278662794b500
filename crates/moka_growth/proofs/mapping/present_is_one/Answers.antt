use Rattle.moka_growth.proofs.Elsewhere.{present_is_one}
use Rattle.moka_growth.proofs.mapping.present_is_one.Goals as goal

pub returns : goal.returns
returns c = record { one = present_is_one }
