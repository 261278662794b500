-- A flow is the same whatever shows that it has read few dropped owners.
use Rattle.std.proofs.Common.{◌≡◌, ◌<◌}
use Rattle.std.proofs.Math.Bridge.{le_prop}
use Rattle.moka_init.specs.declared.flow.Flow.{Flow}
use Rattle.moka_init.specs.declared.points.Point.{Point}

pub at_point : {K V E : Type 0} (flow : Flow K V E) (p q : Point K V E) (few : flow.aborts < 200) → p ≡ q
    → record flow { point = p; few = few } ≡ record flow { point = q }
at_point flow p q few is = λ i. record flow { point = is i; few = le_prop few flow.few i }
