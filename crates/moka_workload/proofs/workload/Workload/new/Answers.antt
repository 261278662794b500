-- No word was drawn, and no call started.
use Rattle.std.proofs.Common.{refl, arith}
use Rattle.moka_workload.specs.Words.{after_words}
use Rattle.moka_workload.specs.Workload.{workload}
use Rattle.moka_workload.proofs.workload.Workload.new.Goals as goal

pub invariant_of-result : goal.invariant_of-result
unfolding after_words workload
invariant_of-result c =
    record { drawn = c.seed_from_u64.ensures; counted = refl; few = omega arith }
