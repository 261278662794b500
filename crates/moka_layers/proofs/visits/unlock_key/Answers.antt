-- The desk makes what the reference's visit makes.
use Rattle.std.proofs.Common.{refl}
use Rattle.moka_layers.proofs.visits.unlock_key.Goals as goal

pub returns-clause-visit : goal.returns-clause-visit
returns-clause-visit g c =
    record { form = refl; made = λ w h may. (refl, c.unlock_key.ensures.makes w h may) }
