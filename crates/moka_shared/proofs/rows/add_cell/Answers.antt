use Rattle.std.proofs.Common.{◌∙◌, ap, sym}
use Rattle.std.specs.List.{slice_get}
use Rattle.moka_history.specs.Logs.{state_of}
use Rattle.moka_history.proofs.Moves.{cell_adding_moves}
use Rattle.moka_shared.specs.Asks.{added_note}
use Rattle.moka_shared.specs.Hashing.{hash_in, place_in}
use Rattle.moka_shared.proofs.Divided.{divided}
use Rattle.moka_shared.proofs.Rowing.{cell_added, leaves, pen_made, word_made}
use Rattle.moka_shared.proofs.rows.add_cell.Goals as goal

pub compare_exchange-left-requires : goal.compare_exchange-left-requires
compare_exchange-left-requires g c =
    let eq = g.K.PartialEq.eq in
    let hash = hash_in g.S.BuildHasher g.S.Hasher.Hasher g.K.Hash.hash_input in
    let place = place_in g.S.BuildHasher g.S.Hasher.Hasher g.K.Hash.hash_input in
    let equals = divided g.S.BuildHasher g.S.Hasher.Hasher g.K.Hash.hash_input eq g.met.K.Eq.laws g.met.K.Hash.respects_eq in
    let offer = c.plain-offer.ensures in
    let pen = c.no_pen-pen.ensures in (
      c.requires.book.0,
      sym c.requires.book.1,
      pen.0 ∙ sym c.requires.book.1,
      offer.0,
      rw (pen.1, offer.1, offer.3)
          (cell_adding_moves eq hash place equals c.args.front.now.log c.requires.some c.args.at.now.key 0 c.args.ticket c.requires.home c.requires.planned),
    )

pub returns-clause-word : goal.returns-clause-word
returns-clause-word g c =
    let f = c.compare_exchange-left in
    let made = pen_made f.new.pen.nib c.tracked-word.new.pen.nib 1 f.ensures.7.makes c.tracked-word.ensures.2 in
    word_made c.tracked-word.result f.new.seen.book f.new.pen.book f.new.pen.nib c.tracked-word.new.pen.nib c.tracked-word.ensures.0
    (f.ensures.5 ∙ (c.no_pen-pen.ensures.0 ∙ sym f.ensures.0)) made.1

pub returns-clause-pen : goal.returns-clause-pen
returns-clause-pen g c =
    let f = c.compare_exchange-left in
    c.tracked-word.ensures.1 ∙ (f.ensures.5 ∙ (c.no_pen-pen.ensures.0 ∙ sym f.ensures.0))

pub returns-clause-added : goal.returns-clause-added
returns-clause-added g c =
    let eq = g.K.PartialEq.eq in
    let hash = hash_in g.S.BuildHasher g.S.Hasher.Hasher g.K.Hash.hash_input in
    let place = place_in g.S.BuildHasher g.S.Hasher.Hasher g.K.Hash.hash_input in
    let f = c.compare_exchange-left in
    let ask = c.plain-offer.result.ask in
    let note = added_note c.args.ticket in
    let key = c.args.at.now.key in
    let adds = f.ensures.7 in
    let cell = cell_added eq hash place key 0 0 f.result ask note c.plain-offer.ensures.1 (c.args.front.now.log, (c.no_pen-pen.result.nib, c.plain-offer.result.state)) (f.new.seen.log, (f.new.pen.nib, f.new.offer.state)) adds in
    let made = pen_made f.new.pen.nib c.tracked-word.new.pen.nib 1 adds.makes c.tracked-word.ensures.2 in
    record { nib = made.0; there = ap (slice_get (state_of f.new.seen.log).cells) made.1 ∙ cell }

pub returns-clause-leaves : goal.returns-clause-leaves
returns-clause-leaves g c =
    let eq = g.K.PartialEq.eq in
    let hash = hash_in g.S.BuildHasher g.S.Hasher.Hasher g.K.Hash.hash_input in
    let place = place_in g.S.BuildHasher g.S.Hasher.Hasher g.K.Hash.hash_input in
    let f = c.compare_exchange-left in
    let ask = c.plain-offer.result.ask in
    let note = added_note c.args.ticket in
    let key = c.args.at.now.key in
    let adds = f.ensures.7 in
    (f.result, leaves eq hash place key 0 0 f.result ask note c.plain-offer.ensures.1 (c.args.front.now.log, (c.no_pen-pen.result.nib, c.plain-offer.result.state)) (f.new.seen.log, (f.new.pen.nib, f.new.offer.state)) adds.added adds.entries)
