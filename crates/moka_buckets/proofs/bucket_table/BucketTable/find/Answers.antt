use Rattle.std.proofs.Common.{rules}
use Rattle.std.proofs.lemmas.Fn.{always_returns_same}
use Rattle.moka_buckets.proofs.bucket_table.BucketTable.find.Goals as goal

pub find_by-requires-clause-one : goal.find_by-requires-clause-one
find_by-requires-clause-one g c = (
  c.args.key.now,
  record {
    computes = always_returns_same _ _ _ (λ a r f k. search rules);
    hashed = c.hash.ensures;
  },
)

pub returns : goal.returns
returns g c = c.find_by.ensures c.args.key.now (record {
  computes = always_returns_same _ _ _ (λ a r f k. search rules);
  hashed = c.hash.ensures;
})
