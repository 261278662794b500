use Rattle.std.proofs.Common.{arith}
use Rattle.moka_words.specs.Arrays.{bucket_at}
use Rattle.moka_shared.specs.Hashing.{hash_in, place_in, segment_of}
use Rattle.moka_shared.proofs.Placed.{segment_below}
use Rattle.moka_shared.proofs.Sealing.{read_stands, stands_one_up}
use Rattle.moka_shared.proofs.table.HashMap.sealed.Goals as goal

pub returns-clause-stands : goal.returns-clause-stands
returns-clause-stands g c =
    let eq = g.K.PartialEq.eq in
    let hash = hash_in g.S.BuildHasher g.S.Hasher.Hasher g.K.Hash.hash_input in
    let place = place_in g.S.BuildHasher g.S.Hasher.Hasher g.K.Hash.hash_input in
    let t = c.args.self.now in
    let below = segment_below t.segments c.args.hash c.requires.log.some (let f = c.ranges.hash.fits in omega (arith, f)) in
    stands_one_up c.args.word (segment_of t.segments c.args.hash) (bucket_at t.size c.args.hash c.args.passed) c.args.front.now.log
    (read_stands eq hash place t c.args.front.now.log c.requires.log c.args.hash c.args.passed c.args.word below c.requires.reads c.requires.shut)
