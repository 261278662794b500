-- The operation fits the table until it has decided, and so does the call.
use Rattle.moka_buckets.specs.Views.{fits_in, fits_keys_in}
use Rattle.moka_bucket_cases.proofs.keys.finish.Given as goal

abbrev pub invariant-loop : goal.invariant-loop
invariant-loop g l =
    fits_in g.S.BuildHasher g.S.Hasher.Hasher g.K.PartialEq.eq g.K.Hash.hash_input l.table l.other
    × fits_keys_in g.S.BuildHasher g.S.Hasher.Hasher g.K.PartialEq.eq g.K.Hash.hash_input l.table l.call
