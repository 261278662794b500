use Rattle.std.proofs.Common.{rules}
use Rattle.std.proofs.lemmas.Fn.{always_returns_same}
use Rattle.moka_map_cases.proofs.calls.has.Goals as goal

pub contains_key-requires-clause-one : goal.contains_key-requires-clause-one
contains_key-requires-clause-one g c = (
  c.args.key,
  record {
    computes = always_returns_same _ _ _ (λ a r f k. search rules);
    hashed = c.hash.ensures;
  },
)
