use Rattle.std.proofs.Common.{◌≡◌, ℕ, ◌+◌, ◌*◌, ◌≤◌, length, max, List, Some, IfOk, subst, sym}
use Rattle.std.specs.Option.{option_map}
use Rattle.std.specs.List.{slice_get}
use Rattle.moka_buckets.specs.Hashing.{hash_in}
use Rattle.moka_buckets.specs.Keys.{IsListing, keys_in, nodes_of}
use Rattle.moka_buckets.specs.Views.{first_of, fits_keys_in, peak_of, segment_for}
use Rattle.moka_buckets.specs.Walks.{listed_by}
use Rattle.moka_buckets.proofs.Keyed.{listing_of}
use Rattle.moka_buckets.proofs.KeyLists.{few_of, own_of}
use Rattle.moka_buckets.proofs.bucket_table.BucketTable.keys.Goals as goal

pub returns-clause-listing : goal.returns-clause-listing
returns-clause-listing g c =
    let call = c.args.call.now in
    subst (λ o. IfOk c.listed_keys.result (λ keys. (list : List g.row.K.Denot) → option_map (λ v. v.items) keys ≡ Some list →
    IsListing g.K.PartialEq.eq o.parts call list)) c.self.view_is
    (listing_of g.K.PartialEq.eq (hash_in g.S.BuildHasher g.S.Hasher.Hasher g.K.Hash.hash_input c.self.inside.hasher) c.self.inside.parts.items call
    (subst (λ o. fits_keys_in g.S.BuildHasher g.S.Hasher.Hasher g.K.PartialEq.eq g.K.Hash.hash_input o call) (sym c.self.view_is) c.requires.fits)
    _ (λ v. v.items) c.listed_keys.result c.listed_keys.ensures.ended
    (subst (λ xs. IfOk c.listed_keys.result (λ keys. (list : List g.row.K.Denot) → option_map (λ v. v.items) keys ≡ Some list →
    list ≡ keys_in (nodes_of xs call.segment) (listed_by call.table))) c.deref.ensures.value c.listed_keys.ensures.listed))

pub returns-clause-few : goal.returns-clause-few
returns-clause-few g c =
    let call = c.args.call.now in
    subst (λ o. IfOk c.listed_keys.result (λ keys. (list : List g.row.K.Denot) → option_map (λ v. v.items) keys ≡ Some list →
    length list ≤ first_of o + 3 * peak_of o)) c.self.view_is
    (few_of g.K.PartialEq.eq (hash_in g.S.BuildHasher g.S.Hasher.Hasher g.K.Hash.hash_input c.self.inside.hasher) (max 128 c.self.inside.first)
    (max c.self.inside.peak c.self.inside.len) c.self.inside.len c.self.inside.parts.items c.self.invariant call
    (subst (λ o. fits_keys_in g.S.BuildHasher g.S.Hasher.Hasher g.K.PartialEq.eq g.K.Hash.hash_input o call) (sym c.self.view_is) c.requires.fits)
    _ (λ v. v.items) c.listed_keys.result c.listed_keys.ensures.ended
    (subst (λ xs. IfOk c.listed_keys.result (λ keys. (list : List g.row.K.Denot) → option_map (λ v. v.items) keys ≡ Some list →
    list ≡ keys_in (nodes_of xs call.segment) (listed_by call.table))) c.deref.ensures.value c.listed_keys.ensures.listed))

pub returns-clause-own : goal.returns-clause-own
returns-clause-own g c =
    let call = c.args.call.now in
    let eq = g.K.PartialEq.eq in
    let hash = hash_in g.S.BuildHasher g.S.Hasher.Hasher g.K.Hash.hash_input c.self.inside.hasher in
    let parts = c.self.inside.parts.items in
    let fits = subst (λ o. fits_keys_in g.S.BuildHasher g.S.Hasher.Hasher g.K.PartialEq.eq g.K.Hash.hash_input o call) (sym c.self.view_is) c.requires.fits in
    subst (λ o. IfOk c.listed_keys.result (λ keys. (list : List g.row.K.Denot) → option_map (λ v. v.items) keys ≡ Some list →
    (x : ℕ) (key : g.row.K.Denot) → slice_get list x ≡ Some key →
    segment_for g.S.BuildHasher g.S.Hasher.Hasher g.K.PartialEq.eq g.K.Hash.hash_input o key ≡ call.segment)) c.self.view_is
    (own_of eq hash (max 128 c.self.inside.first) (max c.self.inside.peak c.self.inside.len) c.self.inside.len parts c.self.invariant call fits
    _ (λ v. v.items) c.listed_keys.result
    (listing_of eq hash parts call fits _ (λ v. v.items) c.listed_keys.result c.listed_keys.ensures.ended
    (subst (λ xs. IfOk c.listed_keys.result (λ keys. (list : List g.row.K.Denot) → option_map (λ v. v.items) keys ≡ Some list →
    list ≡ keys_in (nodes_of xs call.segment) (listed_by call.table))) c.deref.ensures.value c.listed_keys.ensures.listed)))
