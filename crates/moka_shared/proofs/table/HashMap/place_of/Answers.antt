use Rattle.std.proofs.Common.{◌≡◌, ◌<◌, subst}
use Rattle.moka_words.specs.Arrays.{bucket_at}
use Rattle.moka_shared.specs.Hashing.{segment_of}
use Rattle.moka_shared.proofs.table.HashMap.place_of.Goals as goal

pub returns-clause-segment : goal.returns-clause-segment
returns-clause-segment g c = subst (λ s. c.segment_of-segment.result ≡ segment_of s.segments c.args.hash) c.self.view_is c.segment_of-segment.ensures.is

pub returns-clause-index : goal.returns-clause-index
returns-clause-index g c = subst (λ s. c.bucket_at-index.result ≡ bucket_at s.size c.args.hash c.args.passed) c.self.view_is c.bucket_at-index.ensures.bucket

pub returns-clause-below : goal.returns-clause-below
returns-clause-below g c = subst (λ s. c.segment_of-segment.result < s.segments) c.self.view_is c.segment_of-segment.ensures.within

pub returns-clause-inside : goal.returns-clause-inside
returns-clause-inside g c = subst (λ s. c.bucket_at-index.result < s.size) c.self.view_is c.bucket_at-index.ensures.below
