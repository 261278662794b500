use Rattle.std.proofs.Common.{◌≡◌, true, Some, rules, ap, subst, sym, ◌∙◌}
use Rattle.std.specs.Option.{option_map}
use Rattle.moka_map.specs.Calls.{Makes, Spares}
use Rattle.moka_map.specs.Maps.{entries}
use Rattle.moka_map.proofs.Calls.{makes}
use Rattle.moka_map.proofs.hash_map.HashMap.key_where.Goals as goal

pub returns-then-condition : goal.returns-then-condition
returns-then-condition g c q names =
    let key = c.in-Some.key.now in
    let value = c.in-Some.value.now in
    let there = ap (option_map {U = g.row.K.Denot × g.row.V.Denot} (λ p. (p.0.now, p.1.now))) (sym c.in-Some.is) ∙ c.find.ensures q names in
    let same : c.in_ok-clone.field-0 ≡ key = search (rules, c.in_ok-clone.ensures.cases, g.met.K.Exact.exact) in
    subst (λ k. (v : g.row.V.Denot) × Makes g.C.FnMut c.args.condition (k, v) true × (entries g.S.BuildHasher g.S.Hasher.Hasher g.K.PartialEq.eq g.K.Hash.hash_input c.args.self.now q ≡ Some (k, v)))
    (sym same) (value, subst (λ t. Makes g.C.FnMut c.args.condition (key, value) t) c.if-condition.true (makes _ _ _ _ _ _ c.condition.ensures), sym there)

pub returns : goal.returns
returns g c q names =
    let there = ap (option_map {U = g.row.K.Denot × g.row.V.Denot} (λ p. (p.0.now, p.1.now))) (sym c.in-Some.is) ∙ c.find.ensures q names in
    subst (λ o. Spares g.C.FnMut c.args.condition o) there
    (subst (λ t. Makes g.C.FnMut c.args.condition (c.in-Some.key.now, c.in-Some.value.now) t) c.if-condition.false (makes _ _ _ _ _ _ c.condition.ensures))
