use Rattle.std.proofs.Common.{◌∙◌, false, sym}
use Rattle.moka_history.proofs.Moves.{cell_bringing_moves}
use Rattle.moka_history.specs.declared.note.Note.TheVariants.{CellHome}
use Rattle.moka_shared.specs.Hashing.{hash_in, place_in}
use Rattle.moka_shared.proofs.Divided.{divided}
use Rattle.moka_shared.proofs.Rowing.{cell_brought, leaves}
use Rattle.moka_shared.proofs.rows.bring_home.Goals as goal

pub compare_exchange-left-requires : goal.compare_exchange-left-requires
compare_exchange-left-requires g c =
    let eq = g.K.PartialEq.eq in
    let hash = hash_in g.S.BuildHasher g.S.Hasher.Hasher g.K.Hash.hash_input in
    let place = place_in g.S.BuildHasher g.S.Hasher.Hasher g.K.Hash.hash_input in
    let equals = divided g.S.BuildHasher g.S.Hasher.Hasher g.K.Hash.hash_input eq g.met.K.Eq.laws g.met.K.Hash.respects_eq in
    let offer = c.plain-offer.ensures in
    let pen = c.requires.pen in (
      c.requires.book.0,
      sym c.requires.book.1,
      c.requires.book.2 ∙ sym c.requires.book.1,
      offer.0,
      rw (pen.nib, offer.1, offer.3)
          (cell_bringing_moves eq hash place equals c.args.front.now.log c.requires.some c.args.at.now.key 0 c.args.pen.nib.key c.args.ticket false c.requires.home pen.there),
    )

pub returns-clause-home : goal.returns-clause-home
returns-clause-home g c =
    let eq = g.K.PartialEq.eq in
    let hash = hash_in g.S.BuildHasher g.S.Hasher.Hasher g.K.Hash.hash_input in
    let place = place_in g.S.BuildHasher g.S.Hasher.Hasher g.K.Hash.hash_input in
    let f = c.compare_exchange-left in
    let ask = c.plain-offer.result.ask in
    let note = CellHome c.args.ticket c.args.pen.nib.key in
    let key = c.args.at.now.key in
    let brings = f.ensures.7 in
    cell_brought eq hash place key 0 0 f.result ask note c.plain-offer.ensures.1 (c.args.front.now.log, (c.args.pen.nib, c.plain-offer.result.state)) (f.new.seen.log, (f.new.pen.nib, f.new.offer.state)) brings

pub returns-clause-leaves : goal.returns-clause-leaves
returns-clause-leaves g c =
    let eq = g.K.PartialEq.eq in
    let hash = hash_in g.S.BuildHasher g.S.Hasher.Hasher g.K.Hash.hash_input in
    let place = place_in g.S.BuildHasher g.S.Hasher.Hasher g.K.Hash.hash_input in
    let f = c.compare_exchange-left in
    let ask = c.plain-offer.result.ask in
    let note = CellHome c.args.ticket c.args.pen.nib.key in
    let key = c.args.at.now.key in
    let brings = f.ensures.7 in
    (f.result, leaves eq hash place key 0 0 f.result ask note c.plain-offer.ensures.1 (c.args.front.now.log, (c.args.pen.nib, c.plain-offer.result.state)) (f.new.seen.log, (f.new.pen.nib, f.new.offer.state)) brings.added brings.entries)
