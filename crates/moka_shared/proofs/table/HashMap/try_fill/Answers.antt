use Rattle.std.proofs.Common.{subst}
use Rattle.moka_history.proofs.Lists.{prefix_through}
use Rattle.moka_shared.specs.Hashing.{hash_in, place_in}
use Rattle.moka_shared.specs.Links.{keys_in}
use Rattle.moka_shared.specs.Tables.{IsTable}
use Rattle.moka_shared.proofs.Answered.{legal_of}
use Rattle.moka_shared.proofs.Divided.{divided}
use Rattle.moka_shared.proofs.Joining.{is_log}
use Rattle.moka_shared.proofs.Loading.{opened_by}
use Rattle.moka_shared.proofs.Rowing.{row_lasts}
use Rattle.moka_shared.proofs.Since.{made_lasts}
use Rattle.moka_shared.proofs.Swung.{follows_learned, follows_some}
use Rattle.moka_shared.proofs.table.HashMap.try_fill.Goals as goal

pub fill-requires-clause-row : goal.fill-requires-clause-row
fill-requires-clause-row g c =
    let eq = g.K.PartialEq.eq in
    let hash = hash_in g.S.BuildHasher g.S.Hasher.Hasher g.K.Hash.hash_input in
    let place = place_in g.S.BuildHasher g.S.Hasher.Hasher g.K.Hash.hash_input in
    let t = c.args.self.now in
    let well = subst (λ s. IsTable s c.self.inside.start.log c.self.inside.door c.self.inside.buckets.items c.self.inside.nexts.items c.self.inside.roots.items (g.L.Shelf.owner c.self.inside.shelf)) c.self.view_is c.self.invariant in
    let old = c.args.seat.now.front.log in
    let start = c.learn.new.self.log in
    let learned = c.learn.ensures in
    let row = c.args.row.now in
    let x = is_log eq hash place t start learned.4.1.1 (opened_by t.segments t.size t.hasher c.self.inside.start.log start well.begun learned.3) well.some in
    let some = follows_some c.args.segment row.ticket (keys_in row.words.items) old c.requires.follows in
    row_lasts eq hash place old start some learned.2 learned.4.1.1 t.book row.ticket row.words.items c.requires.row

pub fill-requires-clause-follows : goal.fill-requires-clause-follows
fill-requires-clause-follows g c =
    let eq = g.K.PartialEq.eq in
    let hash = hash_in g.S.BuildHasher g.S.Hasher.Hasher g.K.Hash.hash_input in
    let place = place_in g.S.BuildHasher g.S.Hasher.Hasher g.K.Hash.hash_input in
    let equals = divided g.S.BuildHasher g.S.Hasher.Hasher g.K.Hash.hash_input eq g.met.K.Eq.laws g.met.K.Hash.respects_eq in
    let t = c.args.self.now in
    let well = subst (λ s. IsTable s c.self.inside.start.log c.self.inside.door c.self.inside.buckets.items c.self.inside.nexts.items c.self.inside.roots.items (g.L.Shelf.owner c.self.inside.shelf)) c.self.view_is c.self.invariant in
    let old = c.args.seat.now.front.log in
    let start = c.learn.new.self.log in
    let learned = c.learn.ensures in
    let row = c.args.row.now in
    let x = is_log eq hash place t start learned.4.1.1 (opened_by t.segments t.size t.hasher c.self.inside.start.log start well.begun learned.3) well.some in
    let some = follows_some c.args.segment row.ticket (keys_in row.words.items) old c.requires.follows in
    follows_learned eq hash place equals t c.args.segment c.requires.segment old start x learned.2 row.ticket (keys_in row.words.items) c.requires.follows

pub returns-clause-legal : goal.returns-clause-legal
returns-clause-legal g c =
    let eq = g.K.PartialEq.eq in
    let hash = hash_in g.S.BuildHasher g.S.Hasher.Hasher g.K.Hash.hash_input in
    let place = place_in g.S.BuildHasher g.S.Hasher.Hasher g.K.Hash.hash_input in
    legal_of eq hash place c.fill.new.front.log c.fill.ensures.goes_on.is_log.kept

pub returns-clause-made : goal.returns-clause-made
returns-clause-made g c = λ made.
    let eq = g.K.PartialEq.eq in
    let hash = hash_in g.S.BuildHasher g.S.Hasher.Hasher g.K.Hash.hash_input in
    let place = place_in g.S.BuildHasher g.S.Hasher.Hasher g.K.Hash.hash_input in
    let old = c.args.seat.now.front.log in
    let goes = c.fill.ensures.goes_on in
    let new = c.fill.new.front.log in
    made_lasts eq hash place new goes.is_log.kept old (prefix_through old c.learn.new.self.log new c.learn.ensures.2 goes.begins) c.args.seat.now.mine.numbers made

pub returns-clause-row : goal.returns-clause-row
returns-clause-row g c =
    let eq = g.K.PartialEq.eq in
    let hash = hash_in g.S.BuildHasher g.S.Hasher.Hasher g.K.Hash.hash_input in
    let place = place_in g.S.BuildHasher g.S.Hasher.Hasher g.K.Hash.hash_input in
    let t = c.args.self.now in
    let well = subst (λ s. IsTable s c.self.inside.start.log c.self.inside.door c.self.inside.buckets.items c.self.inside.nexts.items c.self.inside.roots.items (g.L.Shelf.owner c.self.inside.shelf)) c.self.view_is c.self.invariant in
    let old = c.args.seat.now.front.log in
    let start = c.learn.new.self.log in
    let learned = c.learn.ensures in
    let row = c.args.row.now in
    let x = is_log eq hash place t start learned.4.1.1 (opened_by t.segments t.size t.hasher c.self.inside.start.log start well.begun learned.3) well.some in
    let some = follows_some c.args.segment row.ticket (keys_in row.words.items) old c.requires.follows in
    let goes = c.fill.ensures.goes_on in
    let new = c.fill.new.front.log in
    row_lasts eq hash place old new some (prefix_through old start new learned.2 goes.begins) goes.is_log.kept t.book row.ticket row.words.items c.requires.row

pub returns-clause-follows : goal.returns-clause-follows
returns-clause-follows g c =
    let eq = g.K.PartialEq.eq in
    let hash = hash_in g.S.BuildHasher g.S.Hasher.Hasher g.K.Hash.hash_input in
    let place = place_in g.S.BuildHasher g.S.Hasher.Hasher g.K.Hash.hash_input in
    let equals = divided g.S.BuildHasher g.S.Hasher.Hasher g.K.Hash.hash_input eq g.met.K.Eq.laws g.met.K.Hash.respects_eq in
    let t = c.args.self.now in
    let well = subst (λ s. IsTable s c.self.inside.start.log c.self.inside.door c.self.inside.buckets.items c.self.inside.nexts.items c.self.inside.roots.items (g.L.Shelf.owner c.self.inside.shelf)) c.self.view_is c.self.invariant in
    let old = c.args.seat.now.front.log in
    let start = c.learn.new.self.log in
    let learned = c.learn.ensures in
    let row = c.args.row.now in
    let x = is_log eq hash place t start learned.4.1.1 (opened_by t.segments t.size t.hasher c.self.inside.start.log start well.begun learned.3) well.some in
    let some = follows_some c.args.segment row.ticket (keys_in row.words.items) old c.requires.follows in
    let goes = c.fill.ensures.goes_on in
    let new = c.fill.new.front.log in
    follows_learned eq hash place equals t c.args.segment c.requires.segment old new goes.is_log (prefix_through old start new learned.2 goes.begins)
    row.ticket (keys_in row.words.items) c.requires.follows
