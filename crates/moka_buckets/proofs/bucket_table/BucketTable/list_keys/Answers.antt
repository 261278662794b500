use Rattle.std.proofs.Common.{◌≡◌, length, Some, max, refl, subst}
use Rattle.std.proofs.lemmas.Option.{slice_get_read}
use Rattle.std.specs.List.{slice_get}
use Rattle.std.specs.Map.{keys_of}
use Rattle.moka_buckets.specs.Asking.{ListsSegment}
use Rattle.moka_buckets.specs.Hashing.{hash_in}
use Rattle.moka_buckets.specs.Parts.{listed_part}
use Rattle.moka_buckets.specs.Views.{map_in, segment_for}
use Rattle.moka_buckets.proofs.OwnKeys.{lists_segment}
use Rattle.moka_buckets.proofs.bucket_table.BucketTable.list_keys.Goals as goal

pub returns-in_ok-list_keys-in-Some-clause-calls : goal.returns-in_ok-list_keys-in-Some-clause-calls
returns-in_ok-list_keys-in-Some-clause-calls g c =
    let inside = c.self.inside in
    let eq = g.K.PartialEq.eq in
    let part = c.in-Some.part.now in
    let keys = keys_of (listed_part part) in
    let look = c.in-Some.ensures.lookup in
    let there = subst (λ ps. slice_get ps c.args.segment ≡ Some part) c.deref.ensures.value
    (slice_get_read c.deref.result.now (length c.deref.result.now) c.args.segment part refl look.3.0 look.1) in (
      keys,
      c.in_ok-list_keys-in-Some.ensures,
      subst (λ o. ListsSegment eq (segment_for g.S.BuildHasher g.S.Hasher.Hasher eq g.K.Hash.hash_input o)
          (map_in g.S.BuildHasher g.S.Hasher.Hasher eq g.K.Hash.hash_input o) c.args.segment keys) c.self.view_is
          (lists_segment eq (hash_in g.S.BuildHasher g.S.Hasher.Hasher g.K.Hash.hash_input inside.hasher) inside.parts.items
          (max 128 inside.first) (max inside.peak inside.len) inside.len c.self.invariant c.args.segment part there),
    )
