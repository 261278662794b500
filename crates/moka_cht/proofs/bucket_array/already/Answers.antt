use Rattle.std.proofs.Common.{ap, refl}
use Rattle.moka_cht.specs.Nodes.{pair_in}
use Rattle.moka_cht.proofs.bucket_array.already.Goals as goal

pub returns : goal.returns
returns g c = ((c.in-Pair.key, c.in-Pair.value), c.in_ok-clone-in-Pair.field-0, ap pair_in c.in-Pair.is, c.in_ok-clone-in-Pair.ensures.cases, refl)
