-- What the layers serve they give as a ground.
use Rattle.std.proofs.lemmas.Result.{IfOk-weaker}
use Rattle.moka_layers.proofs.layers.LayersGround.access.Goals as goal

pub returns-clause-gives : goal.returns-clause-gives
returns-clause-gives g c =
    IfOk-weaker c.access.result _ _ (λ given serves access is w h may. let r = serves access is w h may in (r.0, r.1, r.2))
    c.access.ensures.serves
