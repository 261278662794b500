use Rattle.std.proofs.Common.{◌≡◌, Some, rules, ap, sym, ◌∙◌}
use Rattle.std.proofs.lemmas.Fn.{always_returns_same}
use Rattle.std.specs.Option.{option_map}
use Rattle.moka_map.proofs.hash_map.HashMap.pair_of.Goals as goal

pub find-requires-clause-one : goal.find-requires-clause-one
find-requires-clause-one g c = (
  c.args.key.now,
  record {
    computes = always_returns_same _ _ _ (λ a r f k. search rules);
    hashed = c.hash.ensures;
  },
)

pub returns-in-None : goal.returns-in-None
returns-in-None g c = ap (option_map {U = g.row.K.Denot × g.row.V.Denot} (λ p. (p.0.now, p.1.now))) (sym c.in-None.is) ∙
    c.find.ensures c.args.key.now (record {
      computes = always_returns_same _ _ _ (λ a r f k. search rules);
      hashed = c.hash.ensures;
    })

pub returns-in_ok-clone-in-Some-2 : goal.returns-in_ok-clone-in-Some-2
returns-in_ok-clone-in-Some-2 g c =
    let same_key : c.in_ok-clone-in-Some.field-0 ≡ c.in-Some.key.now = search (rules, c.in_ok-clone-in-Some.ensures.cases, g.met.K.Exact.exact) in
    let same_value : c.in_ok-clone-in-Some-2.field-0 ≡ c.in-Some.value.now = search (rules, c.in_ok-clone-in-Some-2.ensures.cases, g.met.V.Exact.exact) in
    ap (λ k. Some (k, c.in_ok-clone-in-Some-2.field-0)) same_key ∙
    (ap (λ v. Some (c.in-Some.key.now, v)) same_value ∙
    (ap (option_map {U = g.row.K.Denot × g.row.V.Denot} (λ p. (p.0.now, p.1.now))) (sym c.in-Some.is) ∙
    c.find.ensures c.args.key.now (record {
      computes = always_returns_same _ _ _ (λ a r f k. search rules);
      hashed = c.hash.ensures;
    })))
