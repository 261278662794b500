use Rattle.std.proofs.Common.{sym}
use Rattle.moka_history.proofs.Plays.{look_moves}
use Rattle.moka_shared.specs.Hashing.{hash_in, place_in}
use Rattle.moka_shared.proofs.front.look.Goals as goal

pub load-requires : goal.load-requires
load-requires g c =
    let hash = hash_in g.S.BuildHasher g.S.Hasher.Hasher g.K.Hash.hash_input in
    let place = place_in g.S.BuildHasher g.S.Hasher.Hasher g.K.Hash.hash_input in
    let offer = c.plain-offer.ensures in (
      c.requires.book.0,
      sym c.requires.book.1,
      offer.0,
      rw (offer.3)
          (look_moves g.K.PartialEq.eq hash place c.args.front.now.log c.args.word.now.key c.plain-offer.result.ask c.requires.some c.requires.place),
    )
