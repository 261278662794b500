use Rattle.std.proofs.Common.{◌<◌, length, sym, ap, subst, ◌∙◌}
use Rattle.moka_buckets.specs.Keys.{keys_in, nodes_of}
use Rattle.moka_buckets.proofs.Parting.{begun_covered}
use Rattle.moka_buckets.proofs.bucket_table.BucketTable.begin_list.Goals as goal

pub returns-clause-fits : goal.returns-clause-fits
returns-clause-fits g c =
    let it = c.begin_keys.ensures in
    (it.fits, it.going, c.new.ensures.items ∙ sym (ap (keys_in (nodes_of c.args.self.now.parts c.begin_keys.result.segment)) it.listed))

pub returns-clause-all : goal.returns-clause-all
returns-clause-all g c = λ q at.
    begun_covered g.S.BuildHasher g.S.Hasher.Hasher g.K.PartialEq.eq g.K.Hash.hash_input c.args.self.now
    (record { call = c.begin_keys.result; keys = c.new.result }) (subst (λ o. 0 < length o.parts) c.self.view_is c.self.invariant.some) c.args.part q at
    (λ within. c.begin_keys.ensures.covers within q)
