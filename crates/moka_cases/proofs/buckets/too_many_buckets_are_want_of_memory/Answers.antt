use Rattle.std.proofs.Common.{refl}
use Rattle.moka_cases.proofs.buckets.too_many_buckets_are_want_of_memory.Goals as goal

pub with_length-array-requires : goal.with_length-array-requires
with_length-array-requires g c = (61, refl)
