-- The first arrays of a table without a capacity are as long as they are at least.
use Rattle.std.proofs.Common.{refl, ap, max}
use Rattle.moka_walk_cases.proofs.tests.steps_of.Goals as goal

pub count-requires : goal.count-requires
count-requires c = c.in_ok-table.ensures.empty (ap (λ n. max 128 n) (c.in_ok-table.ensures.first.none refl))
