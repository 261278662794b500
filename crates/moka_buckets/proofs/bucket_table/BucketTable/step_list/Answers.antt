use Rattle.moka_buckets.proofs.TableSteps.{list_whole}
use Rattle.moka_buckets.proofs.bucket_table.BucketTable.step_list.Goals as goal

pub returns-then-is_joined : goal.returns-then-is_joined
returns-then-is_joined g c = list_whole g.S.BuildHasher g.S.Hasher.Hasher g.K.PartialEq.eq g.K.Hash.hash_input c.args.self.now c.is_well.ensures.left
    c.args.list.now c.requires.fits c.list_all.result c.list_all.ensures
