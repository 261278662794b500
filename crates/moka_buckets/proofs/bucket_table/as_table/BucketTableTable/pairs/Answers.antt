use Rattle.std.proofs.Common.{◌∙◌, ap, subst}
use Rattle.std.specs.List.{fold}
use Rattle.moka_table.specs.Map.{ListsPairs}
use Rattle.moka_buckets.specs.Hashing.{hash_in}
use Rattle.moka_buckets.specs.Parts.{listed_over}
use Rattle.moka_buckets.specs.Views.{map_in}
use Rattle.moka_buckets.proofs.Joining.{lists_over}
use Rattle.moka_buckets.proofs.bucket_table.as_table.BucketTableTable.pairs.Goals as goal

pub returns : goal.returns
returns g c =
    let inside = c.self.inside in
    subst (λ o. ListsPairs g.K.PartialEq.eq c.from_vec.result (map_in g.S.BuildHasher g.S.Hasher.Hasher g.K.PartialEq.eq g.K.Hash.hash_input o)) c.self.view_is
    (lists_over g.K.PartialEq.eq (hash_in g.S.BuildHasher g.S.Hasher.Hasher g.K.Hash.hash_input inside.hasher)
    (λ x y e. ap (λ w. g.S.Hasher.Hasher.finish (fold g.S.Hasher.Hasher.write (g.S.BuildHasher.build_hasher inside.hasher) w)) (g.met.K.Hash.respects_eq x y e))
    inside.parts.items _ _ _ c.self.invariant
    c.from_vec.result (c.from_vec.ensures ∙ (c.in_ok-pairs.ensures ∙ ap (λ xs. listed_over xs) c.deref.ensures.value)))
