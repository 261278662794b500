use Rattle.std.proofs.Common.{◌∙◌, sym}
use Rattle.moka_shared.specs.Asks.{exchange_note}
use Rattle.moka_shared.specs.Hashing.{hash_in, place_in}
use Rattle.moka_shared.proofs.Divided.{divided}
use Rattle.moka_shared.proofs.Moved.{exchange_moves}
use Rattle.moka_shared.proofs.Told.{was_changed}
use Rattle.moka_shared.proofs.front.exchange.Goals as goal

pub compare_exchange-found-requires : goal.compare_exchange-found-requires
compare_exchange-found-requires g c =
    let eq = g.K.PartialEq.eq in
    let hash = hash_in g.S.BuildHasher g.S.Hasher.Hasher g.K.Hash.hash_input in
    let place = place_in g.S.BuildHasher g.S.Hasher.Hasher g.K.Hash.hash_input in
    let equals = divided g.S.BuildHasher g.S.Hasher.Hasher g.K.Hash.hash_input eq g.met.K.Eq.laws g.met.K.Hash.respects_eq in
    let offer = c.plain-offer.ensures in
    let pen = c.requires.pen in (
      c.requires.book.0,
      sym c.requires.book.1,
      c.requires.book.2 ∙ sym c.requires.book.1,
      offer.0,
      exchange_moves eq hash place equals c.args.bucket.now.key c.args.from c.args.to c.args.asked.now c.args.front.now.log c.requires.may
          c.args.pen.now.nib pen.0 pen.1 pen.2 c.plain-offer.result.ask offer.1 c.plain-offer.result.state offer.3,
    )

pub returns-clause-spends : goal.returns-clause-spends
returns-clause-spends g c =
    let eq = g.K.PartialEq.eq in
    let hash = hash_in g.S.BuildHasher g.S.Hasher.Hasher g.K.Hash.hash_input in
    let place = place_in g.S.BuildHasher g.S.Hasher.Hasher g.K.Hash.hash_input in
    let f = c.compare_exchange-found in
    was_changed eq hash place c.args.bucket.now.key c.args.from c.args.to f.result c.plain-offer.result.ask
    (c.args.front.now.log, (c.args.pen.now.nib, c.plain-offer.result.state)) (f.new.seen.log, (f.new.pen.nib, f.new.offer.state))
    (exchange_note c.args.asked.now) c.plain-offer.ensures.1 f.ensures.7.0 c.if-found-from.false
