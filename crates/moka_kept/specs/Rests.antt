-- A flow between two polls.
use Rattle.std.specs.Prelude.{None}
use Rattle.moka_init.specs.FlowPlan.{IsLive}
use Rattle.moka_init.specs.Grounds.{HasBegun}
use Rattle.moka_init.specs.declared.flow.Flow.{Flow}

-- it has not answered, and no table operation of it is begun
pub record Rests {K V E : Type 0} (flow : Flow K V E) : Type 0 where
  pub live : IsLive flow
  pub begun : HasBegun None flow
