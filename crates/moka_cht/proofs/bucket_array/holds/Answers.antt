use Rattle.std.proofs.Common.{ap}
use Rattle.moka_cht.specs.Nodes.{pair_in}
use Rattle.moka_cht.proofs.Calls.{answers_pair}
use Rattle.moka_cht.proofs.bucket_array.holds.Goals as goal

pub returns : goal.returns
returns g c = ((c.in-Pair.key, c.in-Pair.value), ap pair_in c.in-Pair.is, answers_pair c.condition.ensures)
