use Rattle.std.proofs.Common.{◌≡◌, replicate, rules}
use Rattle.moka_words.specs.declared.words.Word.TheVariants.{Empty}
use Rattle.moka_cht.proofs.Lookups.{empty_maps}
use Rattle.moka_cht.proofs.bucket_array.BucketArray.with_length.Goals as goal

pub returns-clause-pairs : goal.returns-clause-pairs
returns-clause-pairs g c q =
    let words = c.in_ok-vec.field-0.items in
    let empty : words ≡ replicate c.args.length Empty = search rules in
    (empty_maps g.K.PartialEq.eq g.met.K.Eq.laws c.args.length c.new.result.items words q empty).0

pub returns-clause-hashes : goal.returns-clause-hashes
returns-clause-hashes g c q =
    let words = c.in_ok-vec.field-0.items in
    let empty : words ≡ replicate c.args.length Empty = search rules in
    (empty_maps g.K.PartialEq.eq g.met.K.Eq.laws c.args.length c.new.result.items words q empty).1
