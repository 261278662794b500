use Rattle.std.proofs.Common.{length, subst, sym}
use Rattle.moka_history.proofs.Lists.{map_length, prefix_through}
use Rattle.moka_shared.specs.Hashing.{hash_in, place_in}
use Rattle.moka_shared.specs.Links.{keys_in}
use Rattle.moka_shared.specs.Tables.{IsTable}
use Rattle.moka_shared.proofs.Answered.{legal_of}
use Rattle.moka_shared.proofs.Divided.{divided}
use Rattle.moka_shared.proofs.Joining.{is_log}
use Rattle.moka_shared.proofs.Loading.{opened_by}
use Rattle.moka_shared.proofs.Rowing.{row_lasts}
use Rattle.moka_shared.proofs.Since.{made_lasts}
use Rattle.moka_shared.proofs.Swung.{filled_wants, follows_learned, follows_some, swings_sooner}
use Rattle.moka_shared.proofs.table.HashMap.try_swing.Goals as goal

pub first_unset-requires-clause-row : goal.first_unset-requires-clause-row
first_unset-requires-clause-row g c =
    let eq = g.K.PartialEq.eq in
    let hash = hash_in g.S.BuildHasher g.S.Hasher.Hasher g.K.Hash.hash_input in
    let place = place_in g.S.BuildHasher g.S.Hasher.Hasher g.K.Hash.hash_input in
    let old = c.args.seat.now.front.log in
    let row = c.args.row.now in
    let learned = c.learn.ensures in
    row_lasts eq hash place old c.learn.new.self.log (follows_some c.args.segment row.ticket (keys_in row.words.items) old c.requires.follows) learned.2 learned.4.1.1
    c.args.self.now.book row.ticket row.words.items c.requires.row

pub first_unset-requires-clause-follows : goal.first_unset-requires-clause-follows
first_unset-requires-clause-follows g c =
    let eq = g.K.PartialEq.eq in
    let hash = hash_in g.S.BuildHasher g.S.Hasher.Hasher g.K.Hash.hash_input in
    let place = place_in g.S.BuildHasher g.S.Hasher.Hasher g.K.Hash.hash_input in
    let equals = divided g.S.BuildHasher g.S.Hasher.Hasher g.K.Hash.hash_input eq g.met.K.Eq.laws g.met.K.Hash.respects_eq in
    let old = c.args.seat.now.front.log in
    let row = c.args.row.now in
    let learned = c.learn.ensures in
    let t = c.args.self.now in
    let well = subst (λ s. IsTable s c.self.inside.start.log c.self.inside.door c.self.inside.buckets.items c.self.inside.nexts.items c.self.inside.roots.items (g.L.Shelf.owner c.self.inside.shelf)) c.self.view_is c.self.invariant in
    let start = c.learn.new.self.log in
    let x = is_log eq hash place t start learned.4.1.1 (opened_by t.segments t.size t.hasher c.self.inside.start.log start well.begun learned.3) well.some in
    follows_learned eq hash place equals c.args.self.now c.args.segment c.requires.segment old c.learn.new.self.log
    x learned.2 row.ticket (keys_in row.words.items) c.requires.follows

pub swing_to-requires-clause-wanted : goal.swing_to-requires-clause-wanted
swing_to-requires-clause-wanted g c =
    let eq = g.K.PartialEq.eq in
    let hash = hash_in g.S.BuildHasher g.S.Hasher.Hasher g.K.Hash.hash_input in
    let place = place_in g.S.BuildHasher g.S.Hasher.Hasher g.K.Hash.hash_input in
    let equals = divided g.S.BuildHasher g.S.Hasher.Hasher g.K.Hash.hash_input eq g.met.K.Eq.laws g.met.K.Hash.respects_eq in
    let row = c.args.row.now in
    let unset = c.first_unset.ensures in
    filled_wants eq hash place equals c.args.self.now c.args.segment c.requires.segment c.first_unset.new.front.log unset.goes_on.is_log row.ticket (keys_in row.words.items)
    unset.follows (length row.words.items) (sym (map_length (λ w. w.key) row.words.items)) c.in-Ok.ensures.set

pub returns-in-Ok-clause-legal : goal.returns-in-Ok-clause-legal
returns-in-Ok-clause-legal g c =
    let eq = g.K.PartialEq.eq in
    let hash = hash_in g.S.BuildHasher g.S.Hasher.Hasher g.K.Hash.hash_input in
    let place = place_in g.S.BuildHasher g.S.Hasher.Hasher g.K.Hash.hash_input in
    legal_of eq hash place c.swing_to.new.front.log c.swing_to.ensures.goes_on.is_log.kept

pub returns-in-Ok-clause-made : goal.returns-in-Ok-clause-made
returns-in-Ok-clause-made g c = λ made.
    let eq = g.K.PartialEq.eq in
    let hash = hash_in g.S.BuildHasher g.S.Hasher.Hasher g.K.Hash.hash_input in
    let place = place_in g.S.BuildHasher g.S.Hasher.Hasher g.K.Hash.hash_input in
    let old = c.args.seat.now.front.log in
    let start = c.learn.new.self.log in
    let mid = c.first_unset.new.front.log in
    let goes = c.swing_to.ensures.goes_on in
    let new = c.swing_to.new.front.log in
    made_lasts eq hash place new goes.is_log.kept old
    (prefix_through old start new c.learn.ensures.2 (prefix_through start mid new c.first_unset.ensures.goes_on.begins goes.begins))
    c.args.seat.now.mine.numbers made

pub returns-in-Ok-clause-swings : goal.returns-in-Ok-clause-swings
returns-in-Ok-clause-swings g c =
    let eq = g.K.PartialEq.eq in
    let hash = hash_in g.S.BuildHasher g.S.Hasher.Hasher g.K.Hash.hash_input in
    let place = place_in g.S.BuildHasher g.S.Hasher.Hasher g.K.Hash.hash_input in
    let old = c.args.seat.now.front.log in
    let mid = c.first_unset.new.front.log in
    swings_sooner eq hash place c.args.self.now c.args.segment old mid c.swing_to.new.front.log
    (prefix_through old c.learn.new.self.log mid c.learn.ensures.2 c.first_unset.ensures.goes_on.begins)
    c.args.row.now.ticket c.swing_to.result c.swing_to.ensures.swings

pub returns-in-Err-clause-legal : goal.returns-in-Err-clause-legal
returns-in-Err-clause-legal g c =
    let eq = g.K.PartialEq.eq in
    let hash = hash_in g.S.BuildHasher g.S.Hasher.Hasher g.K.Hash.hash_input in
    let place = place_in g.S.BuildHasher g.S.Hasher.Hasher g.K.Hash.hash_input in
    legal_of eq hash place c.first_unset.new.front.log c.first_unset.ensures.goes_on.is_log.kept

pub returns-in-Err-clause-made : goal.returns-in-Err-clause-made
returns-in-Err-clause-made g c = λ made.
    let eq = g.K.PartialEq.eq in
    let hash = hash_in g.S.BuildHasher g.S.Hasher.Hasher g.K.Hash.hash_input in
    let place = place_in g.S.BuildHasher g.S.Hasher.Hasher g.K.Hash.hash_input in
    let old = c.args.seat.now.front.log in
    let goes = c.first_unset.ensures.goes_on in
    let new = c.first_unset.new.front.log in
    made_lasts eq hash place new goes.is_log.kept old (prefix_through old c.learn.new.self.log new c.learn.ensures.2 goes.begins) c.args.seat.now.mine.numbers made

pub returns-in-Ok-clause-row : goal.returns-in-Ok-clause-row
returns-in-Ok-clause-row g c =
    let eq = g.K.PartialEq.eq in
    let hash = hash_in g.S.BuildHasher g.S.Hasher.Hasher g.K.Hash.hash_input in
    let place = place_in g.S.BuildHasher g.S.Hasher.Hasher g.K.Hash.hash_input in
    let old = c.args.seat.now.front.log in
    let row = c.args.row.now in
    let start = c.learn.new.self.log in
    let mid = c.first_unset.new.front.log in
    let goes = c.swing_to.ensures.goes_on in
    let new = c.swing_to.new.front.log in
    let begins = prefix_through old start new c.learn.ensures.2 (prefix_through start mid new c.first_unset.ensures.goes_on.begins goes.begins) in
    row_lasts eq hash place old new (follows_some c.args.segment row.ticket (keys_in row.words.items) old c.requires.follows) begins goes.is_log.kept
    c.args.self.now.book row.ticket row.words.items c.requires.row

pub returns-in-Ok-clause-follows : goal.returns-in-Ok-clause-follows
returns-in-Ok-clause-follows g c =
    let eq = g.K.PartialEq.eq in
    let hash = hash_in g.S.BuildHasher g.S.Hasher.Hasher g.K.Hash.hash_input in
    let place = place_in g.S.BuildHasher g.S.Hasher.Hasher g.K.Hash.hash_input in
    let equals = divided g.S.BuildHasher g.S.Hasher.Hasher g.K.Hash.hash_input eq g.met.K.Eq.laws g.met.K.Hash.respects_eq in
    let old = c.args.seat.now.front.log in
    let row = c.args.row.now in
    let start = c.learn.new.self.log in
    let mid = c.first_unset.new.front.log in
    let goes = c.swing_to.ensures.goes_on in
    let new = c.swing_to.new.front.log in
    let begins = prefix_through old start new c.learn.ensures.2 (prefix_through start mid new c.first_unset.ensures.goes_on.begins goes.begins) in
    follows_learned eq hash place equals c.args.self.now c.args.segment c.requires.segment old new goes.is_log begins row.ticket (keys_in row.words.items) c.requires.follows

pub returns-in-Err-clause-row : goal.returns-in-Err-clause-row
returns-in-Err-clause-row g c =
    let eq = g.K.PartialEq.eq in
    let hash = hash_in g.S.BuildHasher g.S.Hasher.Hasher g.K.Hash.hash_input in
    let place = place_in g.S.BuildHasher g.S.Hasher.Hasher g.K.Hash.hash_input in
    let old = c.args.seat.now.front.log in
    let row = c.args.row.now in
    let start = c.learn.new.self.log in
    let goes = c.first_unset.ensures.goes_on in
    let new = c.first_unset.new.front.log in
    let begins = prefix_through old start new c.learn.ensures.2 goes.begins in
    row_lasts eq hash place old new (follows_some c.args.segment row.ticket (keys_in row.words.items) old c.requires.follows) begins goes.is_log.kept
    c.args.self.now.book row.ticket row.words.items c.requires.row

pub returns-in-Err-clause-follows : goal.returns-in-Err-clause-follows
returns-in-Err-clause-follows g c =
    let eq = g.K.PartialEq.eq in
    let hash = hash_in g.S.BuildHasher g.S.Hasher.Hasher g.K.Hash.hash_input in
    let place = place_in g.S.BuildHasher g.S.Hasher.Hasher g.K.Hash.hash_input in
    let equals = divided g.S.BuildHasher g.S.Hasher.Hasher g.K.Hash.hash_input eq g.met.K.Eq.laws g.met.K.Hash.respects_eq in
    let old = c.args.seat.now.front.log in
    let row = c.args.row.now in
    let start = c.learn.new.self.log in
    let goes = c.first_unset.ensures.goes_on in
    let new = c.first_unset.new.front.log in
    let begins = prefix_through old start new c.learn.ensures.2 goes.begins in
    follows_learned eq hash place equals c.args.self.now c.args.segment c.requires.segment old new goes.is_log begins row.ticket (keys_in row.words.items) c.requires.follows
