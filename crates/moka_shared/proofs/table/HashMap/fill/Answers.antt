use Rattle.std.proofs.Common.{length, subst, sym}
use Rattle.moka_history.proofs.Lists.{prefix_self}
use Rattle.moka_shelf.specs.Looks.{hiding}
use Rattle.moka_shared.specs.Fills.{AreFew, FillsSo, HasKept}
use Rattle.moka_shared.specs.Hashing.{hash_in, place_in}
use Rattle.moka_shared.proofs.Loading.{goes_through, opened_some}
use Rattle.moka_shared.proofs.Rowing.{row_lasts}
use Rattle.moka_shared.proofs.table.HashMap.fill.Goals as goal

pub returns-in_default-clause-goes_on : goal.returns-in_default-clause-goes_on
returns-in_default-clause-goes_on g c = record { begins = prefix_self c.args.front.now.log; is_log = c.requires.log }

pub copy_kept-requires-clause-row : goal.copy_kept-requires-clause-row
copy_kept-requires-clause-row g c =
    let eq = g.K.PartialEq.eq in
    let hash = hash_in g.S.BuildHasher g.S.Hasher.Hasher g.K.Hash.hash_input in
    let place = place_in g.S.BuildHasher g.S.Hasher.Hasher g.K.Hash.hash_input in
    let t = c.args.self.now in
    let old = c.args.front.now.log in
    let goes = c.keep_nodes.ensures.goes_on in
    row_lasts eq hash place old c.keep_nodes.new.front.log (opened_some t.segments t.size t.hasher old c.requires.log.opened) goes.begins goes.is_log.kept
    t.book c.args.row.now.ticket c.args.row.now.words.items c.requires.row

pub copy_kept-requires-clause-kept : goal.copy_kept-requires-clause-kept
copy_kept-requires-clause-kept g c =
    let eq = g.K.PartialEq.eq in
    let hash = hash_in g.S.BuildHasher g.S.Hasher.Hasher g.K.Hash.hash_input in
    let place = place_in g.S.BuildHasher g.S.Hasher.Hasher g.K.Hash.hash_input in
    subst (λ ks. HasKept eq hash place c.args.self.now c.args.segment c.args.self.now.size ks c.keep_nodes.new.front.log) (sym c.deref.ensures.value) c.in-Ok-keep_nodes.ensures.kept

pub copy_kept-requires-clause-few : goal.copy_kept-requires-clause-few
copy_kept-requires-clause-few g c = subst AreFew (sym c.deref.ensures.value) c.in-Ok-keep_nodes.ensures.few

pub returns-in-Ok-keep_nodes-clause-goes_on : goal.returns-in-Ok-keep_nodes-clause-goes_on
returns-in-Ok-keep_nodes-clause-goes_on g c =
    let eq = g.K.PartialEq.eq in
    let hash = hash_in g.S.BuildHasher g.S.Hasher.Hasher g.K.Hash.hash_input in
    let place = place_in g.S.BuildHasher g.S.Hasher.Hasher g.K.Hash.hash_input in
    goes_through eq hash place c.args.self.now c.args.front.now.log c.keep_nodes.new.front.log c.copy_kept.new.front.log c.keep_nodes.ensures.goes_on c.copy_kept.ensures.goes_on

pub returns-in-Ok-keep_nodes-clause-fills : goal.returns-in-Ok-keep_nodes-clause-fills
returns-in-Ok-keep_nodes-clause-fills g c =
    let row = c.args.row.now in
    let before = hiding g.L.Shelf.hidden g.L.Shelf.last c.args.hidden.now in
    subst (λ now. FillsSo c.args.segment c.copy_kept.new.front.log before now row.ticket (length row.words.items) c.copy_kept.result) (sym c.in-Ok-keep_nodes.ensures.shown)
    (c.copy_kept.ensures.fills before)
