use Rattle.std.proofs.Common.{◌≡◌, ◌+◌, ◌↔◌, ◌<◌, ◌^◌, [], arith, ap, subst, sym, ◌∙◌}
use Rattle.std.specs.Option.{IfSome}
use Rattle.moka_buckets.specs.Asking.{ListsSegment}
use Rattle.moka_buckets.specs.Views.{map_in, segment_for}
use Rattle.moka_map.specs.Coming.{Coming, IsToCome}
use Rattle.moka_map.proofs.Arriving.{listed_kept, listed_same}
use Rattle.moka_map.proofs.iter.Iter.list_next.Goals as goal

pub overflow_add-self : goal.overflow_add-self
overflow_add-self g c = let less : c.self.inside.segment + 1 < 2 ^ 64 = subst (λ s. s.segment + 1 < 2 ^ 64) (sym c.self.view_is) c.requires.fits in omega (arith, less)

pub invariant_of-self : goal.invariant_of-self
invariant_of-self g c =
    let it = c.self.inside in
    let t = it.map.now in
    let l = subst (λ o. IfSome o (λ list. ListsSegment g.K.PartialEq.eq (segment_for g.S.BuildHasher g.S.Hasher.Hasher g.K.PartialEq.eq g.K.Hash.hash_input t)
    (map_in g.S.BuildHasher g.S.Hasher.Hasher g.K.PartialEq.eq g.K.Hash.hash_input t) it.segment list.items)) c.in-Some.is c.in_ok-copies.ensures.lists in
    listed_kept g.S.BuildHasher g.S.Hasher.Hasher g.K.PartialEq.eq g.K.Hash.hash_input g.met.K.Eq.laws g.met.K.Hash.respects_eq t it.segment c.in-Some.keys.items l

pub returns-clause-same : goal.returns-clause-same
returns-clause-same g c q =
    let it = c.self.inside in
    let t = it.map.now in
    let l = subst (λ o. IfSome o (λ list. ListsSegment g.K.PartialEq.eq (segment_for g.S.BuildHasher g.S.Hasher.Hasher g.K.PartialEq.eq g.K.Hash.hash_input t)
    (map_in g.S.BuildHasher g.S.Hasher.Hasher g.K.PartialEq.eq g.K.Hash.hash_input t) it.segment list.items)) c.in-Some.is c.in_ok-copies.ensures.lists in
    let new : Coming g.row.K.Denot g.row.V.Denot g.row.S.Denot = record { map = t; segment = it.segment + 1; keys = c.in-Some.keys.items } in
    let none : it.keys.items ≡ [] = ap (λ s. s.keys) c.self.view_is ∙ c.requires.none in
    subst (λ s. IsToCome g.S.BuildHasher g.S.Hasher.Hasher g.K.PartialEq.eq g.K.Hash.hash_input new q ↔ IsToCome g.S.BuildHasher g.S.Hasher.Hasher g.K.PartialEq.eq g.K.Hash.hash_input s q)
    c.self.view_is
    (subst (λ ks. IsToCome g.S.BuildHasher g.S.Hasher.Hasher g.K.PartialEq.eq g.K.Hash.hash_input new q ↔
    IsToCome g.S.BuildHasher g.S.Hasher.Hasher g.K.PartialEq.eq g.K.Hash.hash_input (record { map = t; segment = it.segment; keys = ks }) q) (sym none)
    (listed_same g.S.BuildHasher g.S.Hasher.Hasher g.K.PartialEq.eq g.K.Hash.hash_input g.met.K.Eq.laws g.met.K.Hash.respects_eq t it.segment c.in-Some.keys.items l q))
