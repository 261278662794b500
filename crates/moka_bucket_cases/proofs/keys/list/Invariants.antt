-- The call fits the table, and has not decided.
use Rattle.moka_calls.specs.Standing.{IsGoing}
use Rattle.moka_buckets.specs.Views.{fits_keys_in}
use Rattle.moka_bucket_cases.proofs.keys.list.Given as goal

abbrev pub invariant-loop-steps : goal.invariant-loop-steps
invariant-loop-steps g l =
    fits_keys_in g.S.BuildHasher g.S.Hasher.Hasher g.K.PartialEq.eq g.K.Hash.hash_input l.table l.call
    × IsGoing l.call.table
