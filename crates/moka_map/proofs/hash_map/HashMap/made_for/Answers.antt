use Rattle.std.proofs.Common.{rules, ap, subst, sym, ◌∙◌}
use Rattle.std.proofs.lemmas.Fn.{always_returns_same}
use Rattle.std.specs.Option.{option_map}
use Rattle.moka_map.specs.Calls.{IsMade}
use Rattle.moka_map.proofs.Calls.{makes}
use Rattle.moka_map.proofs.hash_map.HashMap.made_for.Goals as goal

pub find-requires-clause-one : goal.find-requires-clause-one
find-requires-clause-one g c = (
  c.args.key.now,
  record {
    computes = always_returns_same _ _ _ (λ a r f k. search rules);
    hashed = c.requires.hashed;
  },
)

pub returns-in-None : goal.returns-in-None
returns-in-None g c = subst (λ o. IsMade g.I.FnMut c.args.on_insert g.M.FnMut c.args.on_modify o c.on_insert.result)
    (ap (option_map {U = g.row.K.Denot × g.row.V.Denot} (λ p. (p.0.now, p.1.now))) (sym c.in-None.is) ∙
    c.find.ensures c.args.key.now (record {
      computes = always_returns_same _ _ _ (λ a r f k. search rules);
      hashed = c.requires.hashed;
    }))
    (c.on_insert.new.self, c.on_insert.ensures)

pub returns : goal.returns
returns g c = subst (λ o. IsMade g.I.FnMut c.args.on_insert g.M.FnMut c.args.on_modify o c.on_modify.result)
    (ap (option_map {U = g.row.K.Denot × g.row.V.Denot} (λ p. (p.0.now, p.1.now))) (sym c.in-Some.is) ∙
    c.find.ensures c.args.key.now (record {
      computes = always_returns_same _ _ _ (λ a r f k. search rules);
      hashed = c.requires.hashed;
    }))
    (makes _ _ _ _ _ _ c.on_modify.ensures)
