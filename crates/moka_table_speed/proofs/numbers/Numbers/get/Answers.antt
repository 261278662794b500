use Rattle.std.proofs.Common.{sym, subst, nat_eq, rules}
use Rattle.std.proofs.lemmas.Fn.{always_returns_same}
use Rattle.moka_cht.specs.Buckets.{IsHashOf}
use Rattle.moka_table_speed.proofs.numbers.Numbers.get.Goals as goal

pub get-requires-clause-one : goal.get-requires-clause-one
get-requires-clause-one c = (
  c.args.key,
  record {
    computes = always_returns_same _ _ _ (λ a r f k. search rules);
    hashed = subst (λ x. IsHashOf nat_eq c.self.inside.array c.args.key x) (sym c.hash_of.ensures) (c.self.invariant c.args.key);
  },
)
