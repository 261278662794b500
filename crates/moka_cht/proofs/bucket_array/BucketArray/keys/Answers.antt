use Rattle.std.proofs.Common.{subst}
use Rattle.std.specs.Option.{option_map}
use Rattle.moka_hist.specs.Finite.{Lists}
use Rattle.moka_cht.specs.Buckets.{live_pairs, value_under}
use Rattle.moka_cht.proofs.Listing.{lists_live}
use Rattle.moka_cht.proofs.bucket_array.BucketArray.keys.Goals as goal

pub returns-clause-once : goal.returns-clause-once
returns-clause-once g c =
    let inside = c.self.inside in
    subst (λ b. Lists g.K.PartialEq.eq (live_pairs b) (value_under g.K.PartialEq.eq b)) c.self.view_is (lists_live g.K.PartialEq.eq inside.nodes.items inside.words.items c.self.invariant.table)

pub returns-in_err-keys-clause-once : goal.returns-in_err-keys-clause-once
returns-in_err-keys-clause-once g c =
    let inside = c.self.inside in
    subst (λ b. Lists g.K.PartialEq.eq (live_pairs b) (value_under g.K.PartialEq.eq b)) c.self.view_is (lists_live g.K.PartialEq.eq inside.nodes.items inside.words.items c.self.invariant.table)
