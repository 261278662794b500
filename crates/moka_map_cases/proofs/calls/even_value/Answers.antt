use Rattle.std.proofs.Common.{rules}
use Rattle.std.proofs.lemmas.Fn.{always_returns_same}
use Rattle.moka_map_cases.proofs.calls.even_value.Goals as goal

pub get_key_value_and_then-requires-clause-one : goal.get_key_value_and_then-requires-clause-one
get_key_value_and_then-requires-clause-one g c = (
  c.args.key,
  record {
    computes = always_returns_same _ _ _ (λ a r f k. search rules);
    hashed = c.hash.ensures;
  },
)
