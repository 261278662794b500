use Rattle.std.proofs.Common.{rules}
use Rattle.std.proofs.lemmas.Fn.{always_returns_same}
use Rattle.moka_map.proofs.Outcomes.{ok_weaker}
use Rattle.moka_map.proofs.scanning.HashMapScanningGet.scanning_get.Goals as goal

pub get-requires-clause-one : goal.get-requires-clause-one
get-requires-clause-one g c = (
  c.args.key.now,
  record {
    computes = always_returns_same _ _ _ (λ a r f k. search rules);
    hashed = c.hash.ensures;
  },
)

pub returns : goal.returns
returns g c = ok_weaker _ _ c.get.result (λ value is. is c.args.key.now (record {
  computes = always_returns_same _ _ _ (λ a r f k. search rules);
  hashed = c.hash.ensures;
})) c.get.ensures
