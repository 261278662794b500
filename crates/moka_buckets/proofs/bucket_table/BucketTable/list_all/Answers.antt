use Rattle.std.proofs.Common.{refl, ◌∙◌}
use Rattle.moka_buckets.specs.Ops.{covers_for, listed_for}
use Rattle.moka_buckets.specs.declared.op_call.OpCall.TheVariants as any
use Rattle.moka_buckets.proofs.WholeLists.{whole_table}
use Rattle.moka_buckets.proofs.bucket_table.BucketTable.list_all.Goals as goal

pub returns : goal.returns
returns g c =
    let t = c.args.self.now in
    let list = c.args.list.now in
    let eq = g.K.PartialEq.eq in
    let it = c.in_ok-keys.ensures in (
      c.from_vec.result,
      refl,
      whole_table g.S.BuildHasher g.S.Hasher.Hasher eq g.met.K.Eq.laws g.K.Hash.hash_input g.met.K.Hash.respects_eq t c.is_well.ensures.well
          c.requires.joined list.call.segment c.from_vec.result (λ d. c.from_vec.ensures ∙ it.all d) (λ d. c.from_vec.ensures ∙ it.none d)
          (listed_for t (any.Keys list)) (covers_for eq t (any.Keys list)),
    )
