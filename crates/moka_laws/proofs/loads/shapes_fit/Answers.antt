use Rattle.moka_laws.proofs.Shapely.{shapes_fit}
use Rattle.moka_laws.proofs.loads.shapes_fit.Goals as goal

pub returns : goal.returns
returns g c = record { fits = shapes_fit g.K.PartialEq.eq }
