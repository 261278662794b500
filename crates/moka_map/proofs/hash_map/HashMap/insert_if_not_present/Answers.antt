use Rattle.std.proofs.Common.{rules, sym, ◌∙◌}
use Rattle.std.proofs.lemmas.Fn.{always_returns_same}
use Rattle.moka_map.proofs.hash_map.HashMap.insert_if_not_present.Goals as goal

pub get-requires-clause-one : goal.get-requires-clause-one
get-requires-clause-one g c = (
  c.args.key,
  record {
    computes = always_returns_same _ _ _ (λ a r f k. search rules);
    hashed = c.requires.hashed;
  },
)

pub returns-in-Some-clause-present : goal.returns-in-Some-clause-present
returns-in-Some-clause-present g c = sym c.in-Some.is ∙ c.in_ok-there.ensures c.args.key (record {
  computes = always_returns_same _ _ _ (λ a r f k. search rules);
  hashed = c.requires.hashed;
})

pub returns-clause-present : goal.returns-clause-present
returns-clause-present g c = sym c.in_default.is ∙ c.in_ok-there.ensures c.args.key (record {
  computes = always_returns_same _ _ _ (λ a r f k. search rules);
  hashed = c.requires.hashed;
})
