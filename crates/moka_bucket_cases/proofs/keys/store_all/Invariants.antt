-- The call fits the table.
use Rattle.moka_buckets.specs.Views.{fits_keys_in}
use Rattle.moka_bucket_cases.proofs.keys.store_all.Given as goal

abbrev pub invariant-loop-key : goal.invariant-loop-key
invariant-loop-key g l = fits_keys_in g.S.BuildHasher g.S.Hasher.Hasher g.K.PartialEq.eq g.K.Hash.hash_input l.table l.call
