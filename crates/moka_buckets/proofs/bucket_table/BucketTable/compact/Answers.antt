use Rattle.std.proofs.Common.{◌≡◌, ap, subst, max, length, arith}
use Rattle.std.specs.List.{fold}
use Rattle.moka_table.specs.Map.{SameMap}
use Rattle.moka_buckets.specs.Compacting.{AllCompact}
use Rattle.moka_buckets.specs.Hashing.{hash_in}
use Rattle.moka_buckets.specs.Parts.{map_over}
use Rattle.moka_buckets.specs.Views.{map_in}
use Rattle.moka_buckets.proofs.Renewed.{all_parts, all_map}
use Rattle.moka_buckets.proofs.bucket_table.BucketTable.compact.Goals as goal

pub invariant_of-self : goal.invariant_of-self
invariant_of-self g c = all_parts g.K.PartialEq.eq g.met.K.Eq.laws (hash_in g.S.BuildHasher g.S.Hasher.Hasher g.K.Hash.hash_input c.self.inside.hasher)
    (λ x y e. ap (λ w. g.S.Hasher.Hasher.finish (fold g.S.Hasher.Hasher.write (g.S.BuildHasher.build_hasher c.self.inside.hasher) w)) (g.met.K.Hash.respects_eq x y e))
    (max 128 c.self.inside.first) (max c.self.inside.peak c.self.inside.len) c.self.inside.len (omega arith)
    c.self.inside.parts.items c.in_ok-parts.parts.items c.self.invariant
    (subst (λ xs. AllCompact xs c.in_ok-parts.parts.items) c.deref.ensures.value c.in_ok-parts.ensures)

pub returns-clause-map : goal.returns-clause-map
returns-clause-map g c = subst (λ o. SameMap (map_in g.S.BuildHasher g.S.Hasher.Hasher g.K.PartialEq.eq g.K.Hash.hash_input o)
    (map_over g.K.PartialEq.eq (hash_in g.S.BuildHasher g.S.Hasher.Hasher g.K.Hash.hash_input c.self.inside.hasher) c.in_ok-parts.parts.items)) c.self.view_is
    (λ q. all_map g.K.PartialEq.eq g.met.K.Eq.laws (hash_in g.S.BuildHasher g.S.Hasher.Hasher g.K.Hash.hash_input c.self.inside.hasher)
    (λ x y e. ap (λ w. g.S.Hasher.Hasher.finish (fold g.S.Hasher.Hasher.write (g.S.BuildHasher.build_hasher c.self.inside.hasher) w)) (g.met.K.Hash.respects_eq x y e))
    (max 128 c.self.inside.first) (max c.self.inside.peak c.self.inside.len) c.self.inside.len (omega arith)
    c.self.inside.parts.items c.in_ok-parts.parts.items c.self.invariant
    (subst (λ xs. AllCompact xs c.in_ok-parts.parts.items) c.deref.ensures.value c.in_ok-parts.ensures) q)

pub returns-clause-segments : goal.returns-clause-segments
returns-clause-segments g c = subst (λ o. length c.in_ok-parts.parts.items ≡ length o.parts) c.self.view_is
    (subst (λ xs. AllCompact xs c.in_ok-parts.parts.items) c.deref.ensures.value c.in_ok-parts.ensures).many

pub returns-clause-compact : goal.returns-clause-compact
returns-clause-compact g c = subst (λ o. AllCompact o.parts c.in_ok-parts.parts.items) c.self.view_is
    (subst (λ xs. AllCompact xs c.in_ok-parts.parts.items) c.deref.ensures.value c.in_ok-parts.ensures)
