use Rattle.std.proofs.Common.{subst, sym}
use Rattle.moka_buckets.specs.Ops.{StepsTable, bucket_table}
use Rattle.moka_buckets.specs.declared.op_call.OpCall.TheVariants as any
use Rattle.moka_buckets.proofs.bucket_table.BucketTable.step_any.Goals as goal

pub returns-in-Key : goal.returns-in-Key
returns-in-Key g c = record {
  steps = subst (λ x. StepsTable (bucket_table g.S.BuildHasher g.S.Hasher.Hasher g.K.PartialEq.eq g.K.Hash.hash_input) g.K.PartialEq.eq c.args.self.now x
      c.step_one.result c.step_one.new.self (any.Key c.step_one.new.call)) (sym c.in-Key.is) c.step_one.ensures;
}

pub returns-in-Keys : goal.returns-in-Keys
returns-in-Keys g c = record {
  steps = subst (λ x. StepsTable (bucket_table g.S.BuildHasher g.S.Hasher.Hasher g.K.PartialEq.eq g.K.Hash.hash_input) g.K.PartialEq.eq c.args.self.now x
      c.step_list.result c.step_list.new.self (any.Keys c.step_list.new.list)) (sym c.in-Keys.is) c.step_list.ensures;
}
