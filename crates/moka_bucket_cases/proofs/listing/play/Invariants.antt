-- The list fits the table and goes on, and the operation fits it too.
use Rattle.moka_calls.specs.Standing.{IsGoing}
use Rattle.moka_buckets.specs.Views.{fits_in, fits_keys_in}
use Rattle.moka_bucket_cases.proofs.listing.play.Given as goal

abbrev pub invariant-loop-turn : goal.invariant-loop-turn
invariant-loop-turn g l =
    fits_keys_in g.S.BuildHasher g.S.Hasher.Hasher g.K.PartialEq.eq g.K.Hash.hash_input l.table l.call
    × IsGoing l.call.table
    × fits_in g.S.BuildHasher g.S.Hasher.Hasher g.K.PartialEq.eq g.K.Hash.hash_input l.table l.other
