use Rattle.std.proofs.Common.{sym, ◌∙◌}
use Rattle.moka_map.proofs.Keys.{respects_hash, named, alike, removes_alike}
use Rattle.moka_map.proofs.Outcomes.{ok_weaker, match_weaker}
use Rattle.moka_map.proofs.hash_map.HashMap.remove_entry.Goals as goal

pub take-requires : goal.take-requires
take-requires g c =
    let old = c.args.self.now in
    let respects = respects_hash g.S.BuildHasher g.S.Hasher.Hasher g.K.PartialEq.eq g.K.Hash.hash_input old g.met.K.Hash.respects_eq in
    let (q, names) = c.requires.one in
    let equal = named g.S.BuildHasher g.S.Hasher.Hasher g.K.PartialEq.eq g.K.Hash.hash_input old q c.in-Some.key (sym c.in-Some.is ∙ c.in_ok-key_of.ensures q names) in
    record { hashed = names.hashed ∙ respects q c.in-Some.key equal }

pub returns-in-Some-clause-removed : goal.returns-in-Some-clause-removed
returns-in-Some-clause-removed g c =
    let old = c.args.self.now in
    let respects = respects_hash g.S.BuildHasher g.S.Hasher.Hasher g.K.PartialEq.eq g.K.Hash.hash_input old g.met.K.Hash.respects_eq in
    ok_weaker _ _ c.take.result (λ before is q names. is ∙
    alike g.S.BuildHasher g.S.Hasher.Hasher g.K.PartialEq.eq g.K.Hash.hash_input old g.met.K.Eq.laws respects q c.in-Some.key
    (named g.S.BuildHasher g.S.Hasher.Hasher g.K.PartialEq.eq g.K.Hash.hash_input old q c.in-Some.key (sym c.in-Some.is ∙ c.in_ok-key_of.ensures q names)))
    c.take.ensures.before

pub returns-in-Some-clause-removes : goal.returns-in-Some-clause-removes
returns-in-Some-clause-removes g c =
    let old = c.args.self.now in
    ok_weaker _ _ c.take.result (λ before takes q names. match_weaker _ _ _ before (λ p r.
    removes_alike g.S.BuildHasher g.S.Hasher.Hasher g.K.PartialEq.eq g.K.Hash.hash_input g.met.K.Eq.laws q c.in-Some.key
    (named g.S.BuildHasher g.S.Hasher.Hasher g.K.PartialEq.eq g.K.Hash.hash_input old q c.in-Some.key (sym c.in-Some.is ∙ c.in_ok-key_of.ensures q names))
    old c.take.new.self r) takes)
    c.take.ensures.takes
