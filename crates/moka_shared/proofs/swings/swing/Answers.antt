use Rattle.std.proofs.Common.{◌∙◌, sym}
use Rattle.moka_shared.specs.Asks.{swing_note}
use Rattle.moka_shared.specs.Hashing.{hash_in, place_in}
use Rattle.moka_shared.proofs.Divided.{divided}
use Rattle.moka_shared.proofs.Moved.{swing_moves}
use Rattle.moka_shared.proofs.Rowing.{was_sealed}
use Rattle.moka_shared.proofs.swings.swing.Goals as goal

pub compare_exchange-found-requires : goal.compare_exchange-found-requires
compare_exchange-found-requires g c =
    let eq = g.K.PartialEq.eq in
    let hash = hash_in g.S.BuildHasher g.S.Hasher.Hasher g.K.Hash.hash_input in
    let place = place_in g.S.BuildHasher g.S.Hasher.Hasher g.K.Hash.hash_input in
    let equals = divided g.S.BuildHasher g.S.Hasher.Hasher g.K.Hash.hash_input eq g.met.K.Eq.laws g.met.K.Hash.respects_eq in
    let offer = c.plain-offer.ensures in
    let pen = c.no_pen-pen.ensures in (
      c.requires.book.0,
      sym c.requires.book.1,
      pen.0 ∙ sym c.requires.book.1,
      offer.0,
      swing_moves eq hash place equals c.args.root.now.key c.args.asked.now c.args.front.now.log c.requires.may
          c.no_pen-pen.result.nib pen.1 c.plain-offer.result.ask offer.1 c.plain-offer.result.state offer.3,
    )

pub returns-clause-leaves : goal.returns-clause-leaves
returns-clause-leaves g c =
    let eq = g.K.PartialEq.eq in
    let hash = hash_in g.S.BuildHasher g.S.Hasher.Hasher g.K.Hash.hash_input in
    let place = place_in g.S.BuildHasher g.S.Hasher.Hasher g.K.Hash.hash_input in
    let f = c.compare_exchange-found in
    was_sealed eq hash place c.args.root.now.key 0 c.args.asked.now.to f.result c.plain-offer.result.ask (swing_note c.args.asked.now) c.plain-offer.ensures.1
    (c.args.front.now.log, (c.no_pen-pen.result.nib, c.plain-offer.result.state)) (f.new.seen.log, (f.new.pen.nib, f.new.offer.state))
    f.ensures.7 c.if-found-ne0.false
