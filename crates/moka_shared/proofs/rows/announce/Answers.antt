use Rattle.std.proofs.Common.{◌+◌, ◌∙◌, ap, subst, sym}
use Rattle.std.specs.List.{slice_get}
use Rattle.moka_history.specs.Logs.{state_of}
use Rattle.moka_history.proofs.Moves.{array_announcing_moves}
use Rattle.moka_shared.specs.Asks.{planned_note}
use Rattle.moka_shared.specs.Hashing.{hash_in, place_in}
use Rattle.moka_shared.specs.Rows.{Leaves}
use Rattle.moka_shared.proofs.Divided.{divided}
use Rattle.moka_shared.proofs.Rowing.{cell_added, leaves, pen_made, was_announced}
use Rattle.moka_shared.proofs.rows.announce.Goals as goal

pub compare_exchange-found-requires : goal.compare_exchange-found-requires
compare_exchange-found-requires g c =
    let eq = g.K.PartialEq.eq in
    let hash = hash_in g.S.BuildHasher g.S.Hasher.Hasher g.K.Hash.hash_input in
    let place = place_in g.S.BuildHasher g.S.Hasher.Hasher g.K.Hash.hash_input in
    let equals = divided g.S.BuildHasher g.S.Hasher.Hasher g.K.Hash.hash_input eq g.met.K.Eq.laws g.met.K.Hash.respects_eq in
    let offer = c.plain-offer.ensures in
    let pen = c.no_pen-pen.ensures in
    let asked = c.args.asked.now in (
      c.requires.book.0,
      sym c.requires.book.1,
      pen.0 ∙ sym c.requires.book.1,
      offer.0,
      rw (c.requires.door, pen.1, offer.1, offer.3)
          (array_announcing_moves eq hash place equals c.args.front.now.log c.requires.some c.args.drawn asked.ticket asked.segment asked.length asked.grown
          c.requires.next c.requires.small c.requires.grown),
    )

pub returns-clause-names : goal.returns-clause-names
returns-clause-names g c =
    let eq = g.K.PartialEq.eq in
    let hash = hash_in g.S.BuildHasher g.S.Hasher.Hasher g.K.Hash.hash_input in
    let place = place_in g.S.BuildHasher g.S.Hasher.Hasher g.K.Hash.hash_input in
    let f = c.compare_exchange-found in
    let ask = c.plain-offer.result.ask in
    let note = planned_note c.args.asked.now in
    let key = c.args.door.now.key in
    let drawn = c.args.drawn in
    let adds = was_announced eq hash place key drawn (drawn + 1) f.result ask note c.plain-offer.ensures.1 (c.args.front.now.log, (c.no_pen-pen.result.nib, c.plain-offer.result.state)) (f.new.seen.log, (f.new.pen.nib, f.new.offer.state)) f.ensures.7 c.if-found-drawn.false in
    let cell = cell_added eq hash place key drawn (drawn + 1) f.result ask note c.plain-offer.ensures.1 (c.args.front.now.log, (c.no_pen-pen.result.nib, c.plain-offer.result.state)) (f.new.seen.log, (f.new.pen.nib, f.new.offer.state)) adds in
    let made = pen_made f.new.pen.nib c.tracked-cell.new.pen.nib 0 adds.makes c.tracked-cell.ensures.2 in (
      c.tracked-cell.ensures.1 ∙ (f.ensures.5 ∙ (c.no_pen-pen.ensures.0 ∙ sym f.ensures.0)),
      record {
        nib = made.0;
        there = ap (slice_get (state_of f.new.seen.log).cells) made.1 ∙ cell.0;
        plan_is = cell.1;
      },
    )

pub returns-clause-leaves : goal.returns-clause-leaves
returns-clause-leaves g c =
    let eq = g.K.PartialEq.eq in
    let hash = hash_in g.S.BuildHasher g.S.Hasher.Hasher g.K.Hash.hash_input in
    let place = place_in g.S.BuildHasher g.S.Hasher.Hasher g.K.Hash.hash_input in
    let f = c.compare_exchange-found in
    let ask = c.plain-offer.result.ask in
    let note = planned_note c.args.asked.now in
    let key = c.args.door.now.key in
    let drawn = c.args.drawn in
    let adds = was_announced eq hash place key drawn (drawn + 1) f.result ask note c.plain-offer.ensures.1 (c.args.front.now.log, (c.no_pen-pen.result.nib, c.plain-offer.result.state)) (f.new.seen.log, (f.new.pen.nib, f.new.offer.state)) f.ensures.7 c.if-found-drawn.false in
    subst (λ k. Leaves eq hash place k drawn note c.args.front.now.log f.new.seen.log) c.requires.door
    (subst (λ n. Leaves eq hash place key n note c.args.front.now.log f.new.seen.log) c.if-found-drawn.false
    (leaves eq hash place key drawn (drawn + 1) f.result ask note c.plain-offer.ensures.1 (c.args.front.now.log, (c.no_pen-pen.result.nib, c.plain-offer.result.state)) (f.new.seen.log, (f.new.pen.nib, f.new.offer.state)) adds.added adds.entries))
