use Rattle.std.proofs.Common.{◌∙◌, refl, sym}
use Rattle.moka_shared.specs.Asks.{link_note}
use Rattle.moka_shared.specs.Hashing.{hash_in, place_in}
use Rattle.moka_shared.proofs.Divided.{divided}
use Rattle.moka_shared.proofs.Moved.{link_moves}
use Rattle.moka_shared.proofs.Rowing.{was_joined}
use Rattle.moka_shared.proofs.links.link.Goals as goal

pub compare_exchange-found-requires : goal.compare_exchange-found-requires
compare_exchange-found-requires g c =
    let eq = g.K.PartialEq.eq in
    let hash = hash_in g.S.BuildHasher g.S.Hasher.Hasher g.K.Hash.hash_input in
    let place = place_in g.S.BuildHasher g.S.Hasher.Hasher g.K.Hash.hash_input in
    let equals = divided g.S.BuildHasher g.S.Hasher.Hasher g.K.Hash.hash_input eq g.met.K.Eq.laws g.met.K.Hash.respects_eq in
    let offer = c.plain-offer.ensures in (
      c.requires.book.0,
      sym c.requires.book.1,
      c.requires.book.2 ∙ sym c.requires.book.1,
      offer.0,
      link_moves eq hash place equals c.args.next.now.key c.args.asked.now c.args.front.now.log c.args.pen.now.nib c.requires.pen c.requires.may
          c.plain-offer.result.ask offer.1 c.plain-offer.result.state offer.3,
    )

pub returns-clause-joins : goal.returns-clause-joins
returns-clause-joins g c =
    let eq = g.K.PartialEq.eq in
    let hash = hash_in g.S.BuildHasher g.S.Hasher.Hasher g.K.Hash.hash_input in
    let place = place_in g.S.BuildHasher g.S.Hasher.Hasher g.K.Hash.hash_input in
    let f = c.compare_exchange-found in
    was_joined eq hash place c.args.next.now.key 0 c.args.asked.now.ticket f.result c.plain-offer.result.ask (link_note c.args.asked.now) c.plain-offer.ensures.1
    (c.args.front.now.log, (c.args.pen.now.nib, c.plain-offer.result.state)) (f.new.seen.log, (f.new.pen.nib, f.new.offer.state))
    f.ensures.7 c.if-found-ne0.false refl
