use Rattle.std.proofs.Common.{◌∙◌, arith, sym}
use Rattle.moka_words.proofs.Laying.{stored_is_key}
use Rattle.moka_shared.specs.Hashing.{hash_in, place_in}
use Rattle.moka_shared.specs.Probing.{ReadsNode}
use Rattle.moka_shared.proofs.Loading.{pair_read}
use Rattle.moka_shared.proofs.Placed.{segment_below}
use Rattle.moka_shared.proofs.table.HashMap.copied.Goals as goal

pub copied_from-requires-clause-named : goal.copied_from-requires-clause-named
copied_from-requires-clause-named g c =
    let eq = g.K.PartialEq.eq in
    let hash = hash_in g.S.BuildHasher g.S.Hasher.Hasher g.K.Hash.hash_input in
    let place = place_in g.S.BuildHasher g.S.Hasher.Hasher g.K.Hash.hash_input in
    let t = c.args.self.now in
    let log = c.args.front.now.log in
    let below = segment_below t.segments c.args.hash c.requires.log.some (let f = c.ranges.hash.fits in omega (arith, f)) in
    let number = c.in-Some.number in
    let stored = sym c.stored_in.ensures ∙ c.in-Some.is in
    let reads : ReadsNode t c.args.hash number log = record { passed = c.args.passed; word = c.args.word; reads = c.requires.read; names = stored_is_key c.args.word number stored } in
    pair_read eq hash place t log c.requires.log c.args.hash number below reads

pub copied_from-requires-clause-node : goal.copied_from-requires-clause-node
copied_from-requires-clause-node g c =
    let number = c.in-Some.number in
    c.requires.node number (stored_is_key c.args.word number (sym c.stored_in.ensures ∙ c.in-Some.is))
