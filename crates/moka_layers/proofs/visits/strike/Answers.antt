-- Those are left that the reference's visit finds.
use Rattle.std.proofs.Common.{refl, ap}
use Rattle.moka_hist.specs.declared.visits.Found.TheVariants as found
use Rattle.moka_layers.proofs.visits.strike.Goals as goal

pub returns-clause-visit : goal.returns-clause-visit
returns-clause-visit g c = λ ids. record {
  form = (c.strike.result, refl);
  made = λ w h handed may. (ap found.Strike (c.strike.ensures w h handed.predicates), h, handed);
}
