use Rattle.std.proofs.Common.{length}
use Rattle.moka_history.proofs.Lists.{prefix_through}
use Rattle.moka_shared.specs.Hashing.{hash_in, place_in}
use Rattle.moka_shared.specs.Links.{keys_in}
use Rattle.moka_shared.specs.Rows.{plan_for}
use Rattle.moka_shared.proofs.Answered.{legal_of}
use Rattle.moka_shared.proofs.Divided.{divided}
use Rattle.moka_shared.proofs.Joining.{links_sooner, some_cells}
use Rattle.moka_shared.proofs.Rowing.{behind_lasts, holds_yet, row_lasts}
use Rattle.moka_shared.proofs.Since.{made_lasts}
use Rattle.moka_shared.proofs.table.HashMap.try_link.Goals as goal

pub link_after-requires-clause-row : goal.link_after-requires-clause-row
link_after-requires-clause-row g c =
    let eq = g.K.PartialEq.eq in
    let hash = hash_in g.S.BuildHasher g.S.Hasher.Hasher g.K.Hash.hash_input in
    let place = place_in g.S.BuildHasher g.S.Hasher.Hasher g.K.Hash.hash_input in
    let old = c.args.seat.now.front.log in
    let row = c.args.row.now in
    let goes = c.count_sealed.ensures.goes_on in
    row_lasts eq hash place old c.count_sealed.new.front.log (some_cells old row.pen.nib.key _ c.requires.announced.there)
    (prefix_through old c.learn.new.self.log c.count_sealed.new.front.log c.learn.ensures.2 goes.begins) goes.is_log.kept
    c.args.self.now.book row.ticket row.words.items c.requires.row

pub link_after-requires-clause-behind : goal.link_after-requires-clause-behind
link_after-requires-clause-behind g c =
    let eq = g.K.PartialEq.eq in
    let hash = hash_in g.S.BuildHasher g.S.Hasher.Hasher g.K.Hash.hash_input in
    let place = place_in g.S.BuildHasher g.S.Hasher.Hasher g.K.Hash.hash_input in
    let old = c.args.seat.now.front.log in
    let row = c.args.row.now in
    let goes = c.count_sealed.ensures.goes_on in
    behind_lasts eq hash place old c.count_sealed.new.front.log (some_cells old row.pen.nib.key _ c.requires.announced.there)
    (prefix_through old c.learn.new.self.log c.count_sealed.new.front.log c.learn.ensures.2 goes.begins) goes.is_log.kept
    c.args.self.now.book row.ticket row.words.items row.behind c.requires.behind

pub link_after-requires-clause-announced : goal.link_after-requires-clause-announced
link_after-requires-clause-announced g c =
    let eq = g.K.PartialEq.eq in
    let hash = hash_in g.S.BuildHasher g.S.Hasher.Hasher g.K.Hash.hash_input in
    let place = place_in g.S.BuildHasher g.S.Hasher.Hasher g.K.Hash.hash_input in
    let old = c.args.seat.now.front.log in
    let row = c.args.row.now in
    let goes = c.count_sealed.ensures.goes_on in
    holds_yet eq hash place old c.count_sealed.new.front.log (some_cells old row.pen.nib.key _ c.requires.announced.there)
    (prefix_through old c.learn.new.self.log c.count_sealed.new.front.log c.learn.ensures.2 goes.begins) goes.is_log.kept
    row.ticket (plan_for c.args.segment (length row.words.items)) row.pen.nib c.requires.announced

pub returns-in-Ok-clause-legal : goal.returns-in-Ok-clause-legal
returns-in-Ok-clause-legal g c =
    let eq = g.K.PartialEq.eq in
    let hash = hash_in g.S.BuildHasher g.S.Hasher.Hasher g.K.Hash.hash_input in
    let place = place_in g.S.BuildHasher g.S.Hasher.Hasher g.K.Hash.hash_input in
    legal_of eq hash place c.link_after.new.front.log c.link_after.ensures.goes_on.is_log.kept

pub returns-in-Ok-clause-made : goal.returns-in-Ok-clause-made
returns-in-Ok-clause-made g c = λ made.
    let eq = g.K.PartialEq.eq in
    let hash = hash_in g.S.BuildHasher g.S.Hasher.Hasher g.K.Hash.hash_input in
    let place = place_in g.S.BuildHasher g.S.Hasher.Hasher g.K.Hash.hash_input in
    let old = c.args.seat.now.front.log in
    let start = c.learn.new.self.log in
    let mid = c.count_sealed.new.front.log in
    let goes = c.link_after.ensures.goes_on in
    let new = c.link_after.new.front.log in
    made_lasts eq hash place new goes.is_log.kept old
    (prefix_through old start new c.learn.ensures.2 (prefix_through start mid new c.count_sealed.ensures.goes_on.begins goes.begins))
    c.args.seat.now.mine.numbers made

pub returns-in-Ok-clause-links : goal.returns-in-Ok-clause-links
returns-in-Ok-clause-links g c =
    let eq = g.K.PartialEq.eq in
    let hash = hash_in g.S.BuildHasher g.S.Hasher.Hasher g.K.Hash.hash_input in
    let place = place_in g.S.BuildHasher g.S.Hasher.Hasher g.K.Hash.hash_input in
    let equals = divided g.S.BuildHasher g.S.Hasher.Hasher g.K.Hash.hash_input eq g.met.K.Eq.laws g.met.K.Hash.respects_eq in
    let old = c.args.seat.now.front.log in
    let row = c.args.row.now in
    let mid = c.count_sealed.new.front.log in
    let goes = c.count_sealed.ensures.goes_on in
    links_sooner eq hash place equals c.args.self.now old mid c.link_after.new.front.log (prefix_through old c.learn.new.self.log mid c.learn.ensures.2 goes.begins)
    c.args.segment row.ticket (keys_in row.words.items) c.link_after.result c.link_after.ensures.links

pub returns-in-Err-clause-legal : goal.returns-in-Err-clause-legal
returns-in-Err-clause-legal g c =
    let eq = g.K.PartialEq.eq in
    let hash = hash_in g.S.BuildHasher g.S.Hasher.Hasher g.K.Hash.hash_input in
    let place = place_in g.S.BuildHasher g.S.Hasher.Hasher g.K.Hash.hash_input in
    legal_of eq hash place c.count_sealed.new.front.log c.count_sealed.ensures.goes_on.is_log.kept

pub returns-in-Err-clause-made : goal.returns-in-Err-clause-made
returns-in-Err-clause-made g c = λ made.
    let eq = g.K.PartialEq.eq in
    let hash = hash_in g.S.BuildHasher g.S.Hasher.Hasher g.K.Hash.hash_input in
    let place = place_in g.S.BuildHasher g.S.Hasher.Hasher g.K.Hash.hash_input in
    let old = c.args.seat.now.front.log in
    let goes = c.count_sealed.ensures.goes_on in
    let new = c.count_sealed.new.front.log in
    made_lasts eq hash place new goes.is_log.kept old (prefix_through old c.learn.new.self.log new c.learn.ensures.2 goes.begins) c.args.seat.now.mine.numbers made

pub returns-in-Ok-clause-words : goal.returns-in-Ok-clause-words
returns-in-Ok-clause-words g c =
    let eq = g.K.PartialEq.eq in
    let hash = hash_in g.S.BuildHasher g.S.Hasher.Hasher g.K.Hash.hash_input in
    let place = place_in g.S.BuildHasher g.S.Hasher.Hasher g.K.Hash.hash_input in
    let old = c.args.seat.now.front.log in
    let row = c.args.row.now in
    let mid = c.count_sealed.new.front.log in
    let goes = c.link_after.ensures.goes_on in
    let new = c.link_after.new.front.log in
    row_lasts eq hash place old new (some_cells old row.pen.nib.key _ c.requires.announced.there)
    (prefix_through old c.learn.new.self.log new c.learn.ensures.2 (prefix_through c.learn.new.self.log mid new c.count_sealed.ensures.goes_on.begins goes.begins)) goes.is_log.kept
    c.args.self.now.book row.ticket row.words.items c.requires.row

pub returns-in-Err-clause-words : goal.returns-in-Err-clause-words
returns-in-Err-clause-words g c =
    let eq = g.K.PartialEq.eq in
    let hash = hash_in g.S.BuildHasher g.S.Hasher.Hasher g.K.Hash.hash_input in
    let place = place_in g.S.BuildHasher g.S.Hasher.Hasher g.K.Hash.hash_input in
    let old = c.args.seat.now.front.log in
    let row = c.args.row.now in
    let goes = c.count_sealed.ensures.goes_on in
    let new = c.count_sealed.new.front.log in
    row_lasts eq hash place old new (some_cells old row.pen.nib.key _ c.requires.announced.there)
    (prefix_through old c.learn.new.self.log new c.learn.ensures.2 goes.begins) goes.is_log.kept
    c.args.self.now.book row.ticket row.words.items c.requires.row

pub returns-in-Ok-clause-behind : goal.returns-in-Ok-clause-behind
returns-in-Ok-clause-behind g c =
    let eq = g.K.PartialEq.eq in
    let hash = hash_in g.S.BuildHasher g.S.Hasher.Hasher g.K.Hash.hash_input in
    let place = place_in g.S.BuildHasher g.S.Hasher.Hasher g.K.Hash.hash_input in
    let old = c.args.seat.now.front.log in
    let row = c.args.row.now in
    let mid = c.count_sealed.new.front.log in
    let goes = c.link_after.ensures.goes_on in
    let new = c.link_after.new.front.log in
    let begins = prefix_through old c.learn.new.self.log new c.learn.ensures.2 (prefix_through c.learn.new.self.log mid new c.count_sealed.ensures.goes_on.begins goes.begins) in
    behind_lasts eq hash place old new (some_cells old row.pen.nib.key _ c.requires.announced.there) begins goes.is_log.kept
    c.args.self.now.book row.ticket row.words.items row.behind c.requires.behind

pub returns-in-Ok-clause-announced : goal.returns-in-Ok-clause-announced
returns-in-Ok-clause-announced g c =
    let eq = g.K.PartialEq.eq in
    let hash = hash_in g.S.BuildHasher g.S.Hasher.Hasher g.K.Hash.hash_input in
    let place = place_in g.S.BuildHasher g.S.Hasher.Hasher g.K.Hash.hash_input in
    let old = c.args.seat.now.front.log in
    let row = c.args.row.now in
    let mid = c.count_sealed.new.front.log in
    let goes = c.link_after.ensures.goes_on in
    let new = c.link_after.new.front.log in
    let begins = prefix_through old c.learn.new.self.log new c.learn.ensures.2 (prefix_through c.learn.new.self.log mid new c.count_sealed.ensures.goes_on.begins goes.begins) in
    holds_yet eq hash place old new (some_cells old row.pen.nib.key _ c.requires.announced.there) begins goes.is_log.kept
    row.ticket (plan_for c.args.segment (length row.words.items)) row.pen.nib c.requires.announced

pub returns-in-Err-clause-behind : goal.returns-in-Err-clause-behind
returns-in-Err-clause-behind g c =
    let eq = g.K.PartialEq.eq in
    let hash = hash_in g.S.BuildHasher g.S.Hasher.Hasher g.K.Hash.hash_input in
    let place = place_in g.S.BuildHasher g.S.Hasher.Hasher g.K.Hash.hash_input in
    let old = c.args.seat.now.front.log in
    let row = c.args.row.now in
    let goes = c.count_sealed.ensures.goes_on in
    let new = c.count_sealed.new.front.log in
    let begins = prefix_through old c.learn.new.self.log new c.learn.ensures.2 goes.begins in
    behind_lasts eq hash place old new (some_cells old row.pen.nib.key _ c.requires.announced.there) begins goes.is_log.kept
    c.args.self.now.book row.ticket row.words.items row.behind c.requires.behind

pub returns-in-Err-clause-announced : goal.returns-in-Err-clause-announced
returns-in-Err-clause-announced g c =
    let eq = g.K.PartialEq.eq in
    let hash = hash_in g.S.BuildHasher g.S.Hasher.Hasher g.K.Hash.hash_input in
    let place = place_in g.S.BuildHasher g.S.Hasher.Hasher g.K.Hash.hash_input in
    let old = c.args.seat.now.front.log in
    let row = c.args.row.now in
    let goes = c.count_sealed.ensures.goes_on in
    let new = c.count_sealed.new.front.log in
    let begins = prefix_through old c.learn.new.self.log new c.learn.ensures.2 goes.begins in
    holds_yet eq hash place old new (some_cells old row.pen.nib.key _ c.requires.announced.there) begins goes.is_log.kept
    row.ticket (plan_for c.args.segment (length row.words.items)) row.pen.nib c.requires.announced
