use Rattle.std.proofs.Common.{◌≡◌, ap, max, subst, sym, ◌∙◌}
use Rattle.std.specs.List.{fold}
use Rattle.std.specs.Option.{option_copied, option_map}
use Rattle.moka_hist.specs.declared.records.Stored.{Stored}
use Rattle.moka_buckets.specs.Hashing.{hash_in}
use Rattle.moka_buckets.specs.Looking.{CanLook}
use Rattle.moka_buckets.specs.Parts.{map_over}
use Rattle.moka_buckets.specs.Views.{map_in}
use Rattle.moka_buckets.proofs.bucket_table.BucketTable.find_by.Goals as goal

pub find_over-requires-clause-can : goal.find_over-requires-clause-can
find_over-requires-clause-can g c =
    let hash = hash_in g.S.BuildHasher g.S.Hasher.Hasher g.K.Hash.hash_input c.self.inside.hasher in
    let inside = c.self.inside in
    let (q, asks) = c.requires.one in (
      q,
      hash,
      max 128 inside.first,
      max inside.peak inside.len,
      inside.len,
      subst (λ ps. CanLook g.K.PartialEq.eq hash ps (max 128 inside.first) (max inside.peak inside.len) inside.len c.args.hash q)
          (sym c.deref.ensures.value) (record {
            respects = λ x y e. ap (λ w. g.S.Hasher.Hasher.finish (fold g.S.Hasher.Hasher.write (g.S.BuildHasher.build_hasher inside.hasher) w)) (g.met.K.Hash.respects_eq x y e);
            well = c.self.invariant;
            hashed = subst (λ t. c.args.hash ≡ hash_in g.S.BuildHasher g.S.Hasher.Hasher g.K.Hash.hash_input t q) (sym (ap (λ t. t.hasher) c.self.view_is)) asks.hashed;
          }),
    )

pub returns-in-None : goal.returns-in-None
returns-in-None g c q asks =
    let hash = hash_in g.S.BuildHasher g.S.Hasher.Hasher g.K.Hash.hash_input c.self.inside.hasher in
    let inside = c.self.inside in
    let can = subst (λ ps. CanLook g.K.PartialEq.eq hash ps (max 128 inside.first) (max inside.peak inside.len) inside.len c.args.hash q)
    (sym c.deref.ensures.value) (record {
      respects = λ x y e. ap (λ w. g.S.Hasher.Hasher.finish (fold g.S.Hasher.Hasher.write (g.S.BuildHasher.build_hasher inside.hasher) w)) (g.met.K.Hash.respects_eq x y e);
      well = c.self.invariant;
      hashed = subst (λ t. c.args.hash ≡ hash_in g.S.BuildHasher g.S.Hasher.Hasher g.K.Hash.hash_input t q) (sym (ap (λ t. t.hasher) c.self.view_is)) asks.hashed;
    }) in
    let found = c.find_over.ensures q hash (max 128 inside.first) (max inside.peak inside.len) inside.len asks.computes can in
    ap (λ o. option_map {U = g.row.K.Denot × Stored g.row.V.Denot} (λ node. (node.key, node.stored)) (option_copied o)) (sym c.in-None.is) ∙
    (found ∙ (ap (λ ps. map_over g.K.PartialEq.eq hash ps q) c.deref.ensures.value ∙
    ap (λ o. map_in g.S.BuildHasher g.S.Hasher.Hasher g.K.PartialEq.eq g.K.Hash.hash_input o q) c.self.view_is))

pub returns-in-Some : goal.returns-in-Some
returns-in-Some g c q asks =
    let hash = hash_in g.S.BuildHasher g.S.Hasher.Hasher g.K.Hash.hash_input c.self.inside.hasher in
    let inside = c.self.inside in
    let can = subst (λ ps. CanLook g.K.PartialEq.eq hash ps (max 128 inside.first) (max inside.peak inside.len) inside.len c.args.hash q)
    (sym c.deref.ensures.value) (record {
      respects = λ x y e. ap (λ w. g.S.Hasher.Hasher.finish (fold g.S.Hasher.Hasher.write (g.S.BuildHasher.build_hasher inside.hasher) w)) (g.met.K.Hash.respects_eq x y e);
      well = c.self.invariant;
      hashed = subst (λ t. c.args.hash ≡ hash_in g.S.BuildHasher g.S.Hasher.Hasher g.K.Hash.hash_input t q) (sym (ap (λ t. t.hasher) c.self.view_is)) asks.hashed;
    }) in
    let found = c.find_over.ensures q hash (max 128 inside.first) (max inside.peak inside.len) inside.len asks.computes can in
    ap (λ o. option_map {U = g.row.K.Denot × Stored g.row.V.Denot} (λ node. (node.key, node.stored)) (option_copied o)) (sym c.in-Some.is) ∙
    (found ∙ (ap (λ ps. map_over g.K.PartialEq.eq hash ps q) c.deref.ensures.value ∙
    ap (λ o. map_in g.S.BuildHasher g.S.Hasher.Hasher g.K.PartialEq.eq g.K.Hash.hash_input o q) c.self.view_is))
