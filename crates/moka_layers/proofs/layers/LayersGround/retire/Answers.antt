-- What the layers serve they give as a ground.
use Rattle.moka_layers.proofs.layers.LayersGround.retire.Goals as goal

pub returns-clause-gives : goal.returns-clause-gives
returns-clause-gives g c = λ access is w h may. let r = c.retire.ensures.serves access is w h may in (r.0, r.1, r.2)
