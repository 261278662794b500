use Rattle.moka_growth.proofs.Turned.{each_order_is_good}
use Rattle.moka_growth.proofs.turning.each_order_is_good.Goals as goal

pub returns : goal.returns
returns c = record { good = each_order_is_good }
