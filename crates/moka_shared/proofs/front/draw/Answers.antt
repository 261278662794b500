use Rattle.std.proofs.Common.{◌∙◌, sym}
use Rattle.moka_history.proofs.Plays.{announcing_moves}
use Rattle.moka_shared.specs.Asks.{pair_of}
use Rattle.moka_shared.specs.Hashing.{hash_in, place_in}
use Rattle.moka_shared.proofs.Divided.{divided}
use Rattle.moka_shared.proofs.front.draw.Goals as goal

pub compare_exchange-found-requires : goal.compare_exchange-found-requires
compare_exchange-found-requires g c =
    let eq = g.K.PartialEq.eq in
    let hash = hash_in g.S.BuildHasher g.S.Hasher.Hasher g.K.Hash.hash_input in
    let place = place_in g.S.BuildHasher g.S.Hasher.Hasher g.K.Hash.hash_input in
    let equals = divided g.S.BuildHasher g.S.Hasher.Hasher g.K.Hash.hash_input eq g.met.K.Eq.laws g.met.K.Hash.respects_eq in
    let offer = c.plain-offer.ensures in
    let pen = c.no_pen-pen.ensures in (
      c.requires.book.0,
      sym c.requires.book.1,
      pen.0 ∙ sym c.requires.book.1,
      offer.0,
      rw (c.requires.door, pen.1, offer.1, offer.3)
          (announcing_moves eq hash place equals c.args.front.now.log c.args.drawn c.args.asked.now.ticket (pair_of c.args.asked.now.pair)
          c.requires.some c.requires.next c.requires.small),
    )
