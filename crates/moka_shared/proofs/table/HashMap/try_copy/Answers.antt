use Rattle.std.proofs.Common.{subst}
use Rattle.moka_history.proofs.Lists.{prefix_through}
use Rattle.moka_shared.specs.Hashing.{hash_in, place_in}
use Rattle.moka_shared.specs.Links.{keys_in}
use Rattle.moka_shared.specs.Tables.{IsTable}
use Rattle.moka_shared.proofs.Answered.{legal_of}
use Rattle.moka_shared.proofs.Divided.{divided}
use Rattle.moka_shared.proofs.Joining.{copies_sooner, copy_wanted, is_log}
use Rattle.moka_shared.proofs.Loading.{opened_by}
use Rattle.moka_shared.proofs.Rowing.{row_lasts}
use Rattle.moka_shared.proofs.Since.{made_lasts}
use Rattle.moka_shared.proofs.Swung.{follows_learned, follows_some}
use Rattle.moka_shared.proofs.table.HashMap.try_copy.Goals as goal

pub copy_at-requires-clause-row : goal.copy_at-requires-clause-row
copy_at-requires-clause-row g c =
    let eq = g.K.PartialEq.eq in
    let hash = hash_in g.S.BuildHasher g.S.Hasher.Hasher g.K.Hash.hash_input in
    let place = place_in g.S.BuildHasher g.S.Hasher.Hasher g.K.Hash.hash_input in
    let t = c.args.self.now in
    let well = subst (λ s. IsTable s c.self.inside.start.log c.self.inside.door c.self.inside.buckets.items c.self.inside.nexts.items c.self.inside.roots.items (g.L.Shelf.owner c.self.inside.shelf)) c.self.view_is c.self.invariant in
    let old = c.args.seat.now.front.log in
    let start = c.learn.new.self.log in
    let learned = c.learn.ensures in
    let row = c.args.row.now in
    let x = is_log eq hash place t start learned.4.1.1 (opened_by t.segments t.size t.hasher c.self.inside.start.log start well.begun learned.3) well.some in
    let some = follows_some c.args.segment row.ticket (keys_in row.words.items) old c.requires.follows in
    row_lasts eq hash place old start some learned.2 learned.4.1.1 t.book row.ticket row.words.items c.requires.row

pub copy_at-requires-clause-follows : goal.copy_at-requires-clause-follows
copy_at-requires-clause-follows g c =
    let eq = g.K.PartialEq.eq in
    let hash = hash_in g.S.BuildHasher g.S.Hasher.Hasher g.K.Hash.hash_input in
    let place = place_in g.S.BuildHasher g.S.Hasher.Hasher g.K.Hash.hash_input in
    let equals = divided g.S.BuildHasher g.S.Hasher.Hasher g.K.Hash.hash_input eq g.met.K.Eq.laws g.met.K.Hash.respects_eq in
    let t = c.args.self.now in
    let well = subst (λ s. IsTable s c.self.inside.start.log c.self.inside.door c.self.inside.buckets.items c.self.inside.nexts.items c.self.inside.roots.items (g.L.Shelf.owner c.self.inside.shelf)) c.self.view_is c.self.invariant in
    let old = c.args.seat.now.front.log in
    let start = c.learn.new.self.log in
    let learned = c.learn.ensures in
    let row = c.args.row.now in
    let x = is_log eq hash place t start learned.4.1.1 (opened_by t.segments t.size t.hasher c.self.inside.start.log start well.begun learned.3) well.some in
    let some = follows_some c.args.segment row.ticket (keys_in row.words.items) old c.requires.follows in
    follows_learned eq hash place equals t c.args.segment c.requires.segment old start x learned.2 row.ticket (keys_in row.words.items) c.requires.follows

pub copy_at-requires-clause-wanted : goal.copy_at-requires-clause-wanted
copy_at-requires-clause-wanted g c =
    let eq = g.K.PartialEq.eq in
    let hash = hash_in g.S.BuildHasher g.S.Hasher.Hasher g.K.Hash.hash_input in
    let place = place_in g.S.BuildHasher g.S.Hasher.Hasher g.K.Hash.hash_input in
    let equals = divided g.S.BuildHasher g.S.Hasher.Hasher g.K.Hash.hash_input eq g.met.K.Eq.laws g.met.K.Hash.respects_eq in
    let t = c.args.self.now in
    let well = subst (λ s. IsTable s c.self.inside.start.log c.self.inside.door c.self.inside.buckets.items c.self.inside.nexts.items c.self.inside.roots.items (g.L.Shelf.owner c.self.inside.shelf)) c.self.view_is c.self.invariant in
    let old = c.args.seat.now.front.log in
    let start = c.learn.new.self.log in
    let learned = c.learn.ensures in
    let row = c.args.row.now in
    let x = is_log eq hash place t start learned.4.1.1 (opened_by t.segments t.size t.hasher c.self.inside.start.log start well.begun learned.3) well.some in
    let some = follows_some c.args.segment row.ticket (keys_in row.words.items) old c.requires.follows in
    copy_wanted eq hash place equals t old start x learned.2 some c.args.segment row.ticket c.args.index c.args.to c.requires.wanted

pub returns-clause-legal : goal.returns-clause-legal
returns-clause-legal g c =
    let eq = g.K.PartialEq.eq in
    let hash = hash_in g.S.BuildHasher g.S.Hasher.Hasher g.K.Hash.hash_input in
    let place = place_in g.S.BuildHasher g.S.Hasher.Hasher g.K.Hash.hash_input in
    legal_of eq hash place c.copy_at.new.front.log c.copy_at.ensures.goes_on.is_log.kept

pub returns-clause-made : goal.returns-clause-made
returns-clause-made g c = λ made.
    let eq = g.K.PartialEq.eq in
    let hash = hash_in g.S.BuildHasher g.S.Hasher.Hasher g.K.Hash.hash_input in
    let place = place_in g.S.BuildHasher g.S.Hasher.Hasher g.K.Hash.hash_input in
    let old = c.args.seat.now.front.log in
    let goes = c.copy_at.ensures.goes_on in
    let new = c.copy_at.new.front.log in
    made_lasts eq hash place new goes.is_log.kept old (prefix_through old c.learn.new.self.log new c.learn.ensures.2 goes.begins) c.args.seat.now.mine.numbers made

pub returns-clause-copies : goal.returns-clause-copies
returns-clause-copies g c =
    let eq = g.K.PartialEq.eq in
    let hash = hash_in g.S.BuildHasher g.S.Hasher.Hasher g.K.Hash.hash_input in
    let place = place_in g.S.BuildHasher g.S.Hasher.Hasher g.K.Hash.hash_input in
    let equals = divided g.S.BuildHasher g.S.Hasher.Hasher g.K.Hash.hash_input eq g.met.K.Eq.laws g.met.K.Hash.respects_eq in
    copies_sooner eq hash place equals c.args.self.now c.args.seat.now.front.log c.learn.new.self.log c.copy_at.new.front.log c.learn.ensures.2
    c.args.segment c.args.row.now.ticket c.args.index c.args.to c.copy_at.result c.copy_at.ensures.copies
