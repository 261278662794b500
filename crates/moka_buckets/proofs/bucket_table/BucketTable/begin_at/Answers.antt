use Rattle.std.proofs.Common.{◌≡◌, None, ap, subst, sym, refl, max}
use Rattle.moka_buckets.specs.KeyOps.{key_of}
use Rattle.moka_buckets.specs.Hashing.{hash_in}
use Rattle.moka_buckets.specs.Parts.{FitsParts}
use Rattle.moka_buckets.specs.Views.{fits_in, left_of, first_of, peak_of}
use Rattle.moka_table.specs.Map.{most_steps}
use Rattle.moka_buckets.proofs.Beginning.{begun_fits}
use Rattle.moka_buckets.proofs.Spread.{bounded}
use Rattle.std.proofs.Common.{◌≤◌}
use Rattle.moka_buckets.proofs.bucket_table.BucketTable.begin_at.Given as given
use Rattle.moka_buckets.proofs.bucket_table.BucketTable.begin_at.Goals as goal

-- it fits the segments
begun : (g : given.Over) (c : goal.After-new g) → FitsParts g.K.PartialEq.eq (hash_in g.S.BuildHasher g.S.Hasher.Hasher g.K.Hash.hash_input c.self.inside.hasher)
    c.self.inside.parts.items (record { operation = c.args.operation; hash = c.args.hash; table = c.new.result; node = None })
begun g c = begun_fits g.K.PartialEq.eq (hash_in g.S.BuildHasher g.S.Hasher.Hasher g.K.Hash.hash_input c.self.inside.hasher)
    c.self.inside.parts.items (max 128 c.self.inside.first) (max c.self.inside.peak c.self.inside.len) c.self.inside.len c.self.invariant c.kind_of.result
    (record { operation = c.args.operation; hash = c.args.hash; table = c.new.result; node = None }) c.ranges.hash.fits
    (subst (λ t. c.args.hash ≡ hash_in g.S.BuildHasher g.S.Hasher.Hasher g.K.Hash.hash_input t (key_of c.args.operation)) (sym (ap (λ t. t.hasher) c.self.view_is)) c.requires.hashed)
    c.kind_of.ensures c.new.ensures refl

pub returns-clause-fits : goal.returns-clause-fits
returns-clause-fits g c = subst (λ o. fits_in g.S.BuildHasher g.S.Hasher.Hasher g.K.PartialEq.eq g.K.Hash.hash_input o
    (record { operation = c.args.operation; hash = c.args.hash; table = c.new.result; node = None })) c.self.view_is (begun g c)

pub returns-clause-left : goal.returns-clause-left
returns-clause-left g c = subst (λ o. left_of o (record { operation = c.args.operation; hash = c.args.hash; table = c.new.result; node = None })
    ≤ most_steps (first_of o) (peak_of o)) c.self.view_is
    (bounded g.K.PartialEq.eq (hash_in g.S.BuildHasher g.S.Hasher.Hasher g.K.Hash.hash_input c.self.inside.hasher) (max 128 c.self.inside.first)
    c.self.inside.parts.items (max c.self.inside.peak c.self.inside.len) c.self.inside.len c.self.invariant
    (record { operation = c.args.operation; hash = c.args.hash; table = c.new.result; node = None }) (begun g c))
