-- What an ask needs.
use Rattle.moka_init.specs.declared.points.Asks.{Asks}
use Rattle.moka_init.specs.declared.points.Asks.TheVariants as asks
use Rattle.moka_init.specs.Grounds.{AskTakesCopies}
use Rattle.moka_init.specs.PointPlan.{takes_by}

-- each ask of a compute takes copies
pub ask_takes_copies : (a : Asks) → AskTakesCopies (takes_by a)
ask_takes_copies asks.Op = tt
ask_takes_copies asks.TryOp = tt
ask_takes_copies asks.Value = tt
