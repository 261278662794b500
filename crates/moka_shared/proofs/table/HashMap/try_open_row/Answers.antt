use Rattle.std.proofs.Common.{◌∙◌, arith}
use Rattle.moka_history.proofs.Lists.{prefix_through}
use Rattle.moka_shared.specs.Hashing.{hash_in, place_in}
use Rattle.moka_shared.proofs.Answered.{legal_of}
use Rattle.moka_shared.proofs.Rowing.{undrawn_since}
use Rattle.moka_shared.proofs.Since.{last_since, made_lasts}
use Rattle.moka_shared.proofs.table.HashMap.try_open_row.Goals as goal

pub returns-in_default-clause-legal : goal.returns-in_default-clause-legal
returns-in_default-clause-legal g c =
    let eq = g.K.PartialEq.eq in
    let hash = hash_in g.S.BuildHasher g.S.Hasher.Hasher g.K.Hash.hash_input in
    let place = place_in g.S.BuildHasher g.S.Hasher.Hasher g.K.Hash.hash_input in
    legal_of eq hash place c.learn.new.self.log c.learn.ensures.4.1.1

pub returns-in_default-clause-made : goal.returns-in_default-clause-made
returns-in_default-clause-made g c = λ made.
    let eq = g.K.PartialEq.eq in
    let hash = hash_in g.S.BuildHasher g.S.Hasher.Hasher g.K.Hash.hash_input in
    let place = place_in g.S.BuildHasher g.S.Hasher.Hasher g.K.Hash.hash_input in
    let old = c.args.seat.now.front.log in
    let start = c.learn.new.self.log in
    let kept = c.learn.ensures.4.1.1 in
    made_lasts eq hash place start kept old c.learn.ensures.2 c.args.seat.now.mine.numbers made

pub returns-in-Ok-announce_for-clause-legal : goal.returns-in-Ok-announce_for-clause-legal
returns-in-Ok-announce_for-clause-legal g c =
    let eq = g.K.PartialEq.eq in
    let hash = hash_in g.S.BuildHasher g.S.Hasher.Hasher g.K.Hash.hash_input in
    let place = place_in g.S.BuildHasher g.S.Hasher.Hasher g.K.Hash.hash_input in
    legal_of eq hash place c.opened_row.new.front.log c.opened_row.ensures.goes_on.is_log.kept

pub returns-in-Ok-announce_for-clause-made : goal.returns-in-Ok-announce_for-clause-made
returns-in-Ok-announce_for-clause-made g c = λ made.
    let eq = g.K.PartialEq.eq in
    let hash = hash_in g.S.BuildHasher g.S.Hasher.Hasher g.K.Hash.hash_input in
    let place = place_in g.S.BuildHasher g.S.Hasher.Hasher g.K.Hash.hash_input in
    let old = c.args.seat.now.front.log in
    let start = c.learn.new.self.log in
    let mid = c.announce_for.new.front.log in
    let goes = c.opened_row.ensures.goes_on in
    let new = c.opened_row.new.front.log in
    made_lasts eq hash place new goes.is_log.kept old
    (prefix_through old start new c.learn.ensures.2 (prefix_through start mid new c.announce_for.ensures.goes_on.begins goes.begins))
    c.args.seat.now.mine.numbers made

pub returns-in-Ok-announce_for-clause-late : goal.returns-in-Ok-announce_for-clause-late
returns-in-Ok-announce_for-clause-late g c =
    let eq = g.K.PartialEq.eq in
    let hash = hash_in g.S.BuildHasher g.S.Hasher.Hasher g.K.Hash.hash_input in
    let place = place_in g.S.BuildHasher g.S.Hasher.Hasher g.K.Hash.hash_input in
    let old = c.args.seat.now.front.log in
    let start = c.learn.new.self.log in
    let kept = c.learn.ensures.4.1.1 in
    let rises = last_since eq hash place start kept old c.learn.ensures.2 in
    let late = c.in-Ok-announce_for.ensures.late in
    let ticket = c.opened_row.ensures.ticket in
    omega (arith, rises, late, ticket)

pub returns-in-Ok-announce_for-clause-pen : goal.returns-in-Ok-announce_for-clause-pen
returns-in-Ok-announce_for-clause-pen g c = c.opened_row.ensures.pen ∙ (c.in-Ok-announce_for.ensures.pen ∙ (c.announce_for.ensures.book ∙ (c.learn.ensures.0 ∙ c.requires.seat)))

pub returns-in-Err-clause-legal : goal.returns-in-Err-clause-legal
returns-in-Err-clause-legal g c =
    let eq = g.K.PartialEq.eq in
    let hash = hash_in g.S.BuildHasher g.S.Hasher.Hasher g.K.Hash.hash_input in
    let place = place_in g.S.BuildHasher g.S.Hasher.Hasher g.K.Hash.hash_input in
    legal_of eq hash place c.announce_for.new.front.log c.announce_for.ensures.goes_on.is_log.kept

pub returns-in-Err-clause-made : goal.returns-in-Err-clause-made
returns-in-Err-clause-made g c = λ made.
    let eq = g.K.PartialEq.eq in
    let hash = hash_in g.S.BuildHasher g.S.Hasher.Hasher g.K.Hash.hash_input in
    let place = place_in g.S.BuildHasher g.S.Hasher.Hasher g.K.Hash.hash_input in
    let old = c.args.seat.now.front.log in
    let goes = c.announce_for.ensures.goes_on in
    let new = c.announce_for.new.front.log in
    made_lasts eq hash place new goes.is_log.kept old (prefix_through old c.learn.new.self.log new c.learn.ensures.2 goes.begins) c.args.seat.now.mine.numbers made

pub returns-in-Err-clause-again : goal.returns-in-Err-clause-again
returns-in-Err-clause-again g c =
    let eq = g.K.PartialEq.eq in
    let hash = hash_in g.S.BuildHasher g.S.Hasher.Hasher g.K.Hash.hash_input in
    let place = place_in g.S.BuildHasher g.S.Hasher.Hasher g.K.Hash.hash_input in
    let old = c.args.seat.now.front.log in
    let start = c.learn.new.self.log in
    let kept = c.learn.ensures.4.1.1 in
    undrawn_since old start c.announce_for.new.front.log (last_since eq hash place start kept old c.learn.ensures.2) c.in-Err.missed c.in-Err.ensures.missed
