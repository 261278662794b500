use Rattle.std.proofs.Common.{subst}
use Rattle.moka_buckets.specs.Hashing.{hash_in}
use Rattle.moka_buckets.specs.Parts.{AreParts}
use Rattle.moka_buckets.specs.Views.{count_of, first_of, peak_of}
use Rattle.moka_buckets.proofs.TableSteps.{bounded_all}
use Rattle.moka_buckets.proofs.bucket_table.BucketTable.is_well.Goals as goal

pub returns-clause-well : goal.returns-clause-well
returns-clause-well g c =
    subst (λ o. AreParts g.K.PartialEq.eq (hash_in g.S.BuildHasher g.S.Hasher.Hasher g.K.Hash.hash_input o.hasher) o.parts (first_of o) (peak_of o) (count_of o))
    c.self.view_is c.self.invariant

pub returns-clause-left : goal.returns-clause-left
returns-clause-left g c = bounded_all g.S.BuildHasher g.S.Hasher.Hasher g.K.PartialEq.eq g.K.Hash.hash_input c.args.self.now (returns-clause-well g c)
