use Rattle.std.proofs.Common.{rules}
use Rattle.std.proofs.lemmas.Fn.{always_returns_same}
use Rattle.moka_map_cases.proofs.calls.remove_value.Goals as goal

pub remove_entry_if_and-requires-clause-one : goal.remove_entry_if_and-requires-clause-one
remove_entry_if_and-requires-clause-one g c = (
  c.args.key,
  record {
    computes = always_returns_same _ _ _ (λ a r f k. search rules);
    hashed = c.hash-hash.ensures;
  },
)
