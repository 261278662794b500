use Rattle.std.proofs.Common.{◌≡◌, true, Some, ap, subst, sym, ◌∙◌}
use Rattle.std.specs.Option.{MatchOption, option_map}
use Rattle.moka_map.specs.Calls.{Makes, Spares}
use Rattle.moka_map.specs.Maps.{entries}
use Rattle.moka_map.proofs.Keys.{respects_hash, named, where_taken}
use Rattle.moka_map.proofs.Outcomes.{ok_weaker, ok_both}
use Rattle.moka_map.proofs.hash_map.HashMap.take_where.Goals as goal

pub take-requires : goal.take-requires
take-requires g c =
    let old = c.args.self.now in
    let respects = respects_hash g.S.BuildHasher g.S.Hasher.Hasher g.K.PartialEq.eq g.K.Hash.hash_input old g.met.K.Hash.respects_eq in
    let (q, names) = c.requires.one in
    let there = entries g.S.BuildHasher g.S.Hasher.Hasher g.K.PartialEq.eq g.K.Hash.hash_input old q in
    let found = subst (λ o. MatchOption o (Spares g.C.FnMut c.args.condition there) (λ k. (v : g.row.V.Denot) × Makes g.C.FnMut c.args.condition (k, v) true × (there ≡ Some (k, v))))
    c.in-Some.is (c.in_ok-key_where.ensures q names) in
    let equal = named g.S.BuildHasher g.S.Hasher.Hasher g.K.PartialEq.eq g.K.Hash.hash_input old q c.in-Some.key
    (sym (ap (option_map {U = g.row.K.Denot} (λ p. p.0)) found.2)) in
    record { hashed = names.hashed ∙ respects q c.in-Some.key equal }

pub returns-in-Some-clause-takes : goal.returns-in-Some-clause-takes
returns-in-Some-clause-takes g c =
    let old = c.args.self.now in
    let respects = respects_hash g.S.BuildHasher g.S.Hasher.Hasher g.K.PartialEq.eq g.K.Hash.hash_input old g.met.K.Hash.respects_eq in
    ok_weaker _ _ c.take.result (λ before both q names.
    let there = entries g.S.BuildHasher g.S.Hasher.Hasher g.K.PartialEq.eq g.K.Hash.hash_input old q in
    let found = subst (λ o. MatchOption o (Spares g.C.FnMut c.args.condition there) (λ k. (v : g.row.V.Denot) × Makes g.C.FnMut c.args.condition (k, v) true × (there ≡ Some (k, v))))
    c.in-Some.is (c.in_ok-key_where.ensures q names) in
    where_taken g.S.BuildHasher g.S.Hasher.Hasher g.K.PartialEq.eq g.K.Hash.hash_input g.met.K.Eq.laws g.C.FnMut c.args.condition old c.take.new.self respects q c.in-Some.key found.0
    found.1 found.2 before both.0 both.1)
    (ok_both _ _ c.take.result c.take.ensures.before c.take.ensures.takes)
