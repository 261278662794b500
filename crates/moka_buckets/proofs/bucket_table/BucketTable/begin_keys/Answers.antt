use Rattle.std.proofs.Common.{◌<◌, ◌≤◌, ap, length, max, subst}
use Rattle.moka_buckets.specs.Walks.{listed_by}
use Rattle.moka_table.specs.Map.{most_steps}
use Rattle.moka_buckets.specs.Hashing.{hash_in}
use Rattle.moka_buckets.specs.Views.{covers_in, first_of, fits_keys_in, left_keys_of, lists_in, peak_of}
use Rattle.moka_buckets.proofs.Keyed.{keys_bounded, begun_keys, begun_none, begun_covers}
use Rattle.moka_buckets.proofs.bucket_table.BucketTable.begin_keys.Goals as goal

pub returns-clause-fits : goal.returns-clause-fits
returns-clause-fits g c = subst (λ o. fits_keys_in g.S.BuildHasher g.S.Hasher.Hasher g.K.PartialEq.eq g.K.Hash.hash_input o
    (record { segment = c.args.segment; table = c.new.result })) c.self.view_is
    (begun_keys g.K.PartialEq.eq (hash_in g.S.BuildHasher g.S.Hasher.Hasher g.K.Hash.hash_input c.self.inside.hasher) c.self.inside.parts.items
    (record { segment = c.args.segment; table = c.new.result }) c.new.ensures)

pub returns-clause-none : goal.returns-clause-none
returns-clause-none g c = subst (λ o. (key : g.row.K.Denot) → lists_in o (record { segment = c.args.segment; table = c.new.result }) key → ⊥) c.self.view_is
    (begun_none g.K.PartialEq.eq (hash_in g.S.BuildHasher g.S.Hasher.Hasher g.K.Hash.hash_input c.self.inside.hasher) c.self.inside.parts.items
    (record { segment = c.args.segment; table = c.new.result }) c.new.ensures)

pub returns-clause-covers : goal.returns-clause-covers
returns-clause-covers g c = subst (λ o. c.args.segment < length o.parts → (key : g.row.K.Denot) → covers_in g.K.PartialEq.eq o (record { segment = c.args.segment; table = c.new.result }) key) c.self.view_is
    (begun_covers g.K.PartialEq.eq (hash_in g.S.BuildHasher g.S.Hasher.Hasher g.K.Hash.hash_input c.self.inside.hasher) c.self.inside.parts.items
    (record { segment = c.args.segment; table = c.new.result }) c.new.ensures)

pub returns-clause-left : goal.returns-clause-left
returns-clause-left g c = subst (λ o. left_keys_of o (record { segment = c.args.segment; table = c.new.result }) ≤ most_steps (first_of o) (peak_of o)) c.self.view_is
    (keys_bounded g.K.PartialEq.eq (hash_in g.S.BuildHasher g.S.Hasher.Hasher g.K.Hash.hash_input c.self.inside.hasher) (max 128 c.self.inside.first)
    c.self.inside.parts.items (max c.self.inside.peak c.self.inside.len) c.self.inside.len c.self.invariant
    (record { segment = c.args.segment; table = c.new.result })
    (begun_keys g.K.PartialEq.eq (hash_in g.S.BuildHasher g.S.Hasher.Hasher g.K.Hash.hash_input c.self.inside.hasher) c.self.inside.parts.items
    (record { segment = c.args.segment; table = c.new.result }) c.new.ensures))

pub returns-clause-listed : goal.returns-clause-listed
returns-clause-listed g c = ap listed_by c.new.ensures
