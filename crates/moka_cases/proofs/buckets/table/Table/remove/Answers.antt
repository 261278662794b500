use Rattle.std.proofs.Common.{◌%◌, ap, sym, subst, nat_eq, rules}
use borrow.Author.Tests.{eqb-true}
use Rattle.std.proofs.lemmas.Fn.{always_returns_same}
use Rattle.moka_cht.specs.Buckets.{IsHashOf}
use Rattle.moka_cht.proofs.Following.{follows_removes_ok}
use Rattle.moka_cases.proofs.buckets.table.Table.remove.Goals as goal

pub remove_if-requires-clause-one : goal.remove_if-requires-clause-one
remove_if-requires-clause-one c = (
  c.args.key,
  record {
    computes = always_returns_same _ _ _ (λ a r f k. search rules);
    hashed = subst (λ x. IsHashOf nat_eq c.self.inside.array c.args.key x) (sym c.hash_of-hash.ensures) (c.self.invariant c.args.key);
  },
)

pub invariant_of-self : goal.invariant_of-self
invariant_of-self c =
    follows_removes_ok nat_eq (λ q. q % 4) (λ k q same. ap (λ x. x % 4) (eqb-true k q same)) _ _ c.args.key c.self.inside.array c.remove_if.new.self c.self.invariant c.remove_if.result c.remove_if.ensures.ok
    (c.remove_if.ensures.removes c.args.key (record {
      computes = always_returns_same _ _ _ (λ a r f k. search rules);
      hashed = subst (λ x. IsHashOf nat_eq c.self.inside.array c.args.key x) (sym c.hash_of-hash.ensures) (c.self.invariant c.args.key);
    }))
