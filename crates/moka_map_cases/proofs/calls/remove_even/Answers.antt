use Rattle.std.proofs.Common.{rules}
use Rattle.std.proofs.lemmas.Fn.{always_returns_same}
use Rattle.moka_map_cases.proofs.calls.remove_even.Goals as goal

pub remove_if-requires-clause-one : goal.remove_if-requires-clause-one
remove_if-requires-clause-one g c = (
  c.args.key,
  record {
    computes = always_returns_same _ _ _ (λ a r f k. search rules);
    hashed = c.hash-hash.ensures;
  },
)
