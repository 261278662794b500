use Rattle.std.proofs.Common.{rules}
use Rattle.std.proofs.lemmas.Fn.{always_returns_same}
use Rattle.moka_map_speed.proofs.map.remove.Goals as goal

pub remove-requires-clause-one : goal.remove-requires-clause-one
remove-requires-clause-one c = (
  c.args.key,
  record {
    computes = always_returns_same _ _ _ (λ a r f k. search rules);
    hashed = c.hash-hash.ensures;
  },
)
