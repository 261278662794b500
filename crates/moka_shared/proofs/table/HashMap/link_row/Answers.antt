use Rattle.std.proofs.Common.{◌∙◌, Some, ap, refl, subst, suc, sym}
use Rattle.moka_history.specs.declared.note.Note.TheVariants.{ArrayLinked}
use Rattle.moka_history.proofs.Lists.{prefix_self}
use Rattle.moka_shared.specs.Asks.{link_note}
use Rattle.moka_shared.specs.Hashing.{hash_in, place_in}
use Rattle.boxcar.specs.Table.{first}
use Rattle.moka_shared.specs.Links.{JoinsRow, keys_in}
use Rattle.moka_shared.proofs.Divided.{divided}
use Rattle.moka_shared.proofs.Joining.{linked_so, may_join, there_so}
use Rattle.moka_shared.proofs.Rowing.{goes_by, leaves_go}
use Rattle.moka_shared.proofs.table.HashMap.link_row.Goals as goal

pub link-requires-clause-book : goal.link-requires-clause-book
link-requires-clause-book g c =
    let is = c.next-next.ensures in
    (ap (λ w. w.tracked) is, ap (λ w. w.book) is ∙ sym c.requires.book, c.requires.pen ∙ sym c.requires.book)

pub link-requires-clause-pen : goal.link-requires-clause-pen
link-requires-clause-pen g c = c.requires.announced.nib

pub link-requires-clause-may : goal.link-requires-clause-may
link-requires-clause-may g c =
    let eq = g.K.PartialEq.eq in
    let hash = hash_in g.S.BuildHasher g.S.Hasher.Hasher g.K.Hash.hash_input in
    let place = place_in g.S.BuildHasher g.S.Hasher.Hasher g.K.Hash.hash_input in
    let equals = divided g.S.BuildHasher g.S.Hasher.Hasher g.K.Hash.hash_input eq g.met.K.Eq.laws g.met.K.Hash.respects_eq in
    let t = c.args.self.now in
    let old = c.args.front.now.log in
    let row = c.args.row.now in
    may_join eq hash place equals t old old c.requires.log (prefix_self old) c.args.segment c.requires.segment row.ticket row.words.items row.behind row.pen.nib
    c.requires.row c.requires.behind c.requires.announced c.requires.wanted c.next-next.result.now.key (ap (λ w. w.key) c.next-next.ensures)
    record { ticket = row.ticket; segment = c.args.segment; keys = c.of-keys.result; behind = c.of-behind.result } refl refl c.of-keys.ensures (ap first c.of-behind.ensures)

pub returns-in-Ok-clause-goes_on : goal.returns-in-Ok-clause-goes_on
returns-in-Ok-clause-goes_on g c =
    let eq = g.K.PartialEq.eq in
    let hash = hash_in g.S.BuildHasher g.S.Hasher.Hasher g.K.Hash.hash_input in
    let place = place_in g.S.BuildHasher g.S.Hasher.Hasher g.K.Hash.hash_input in
    leaves_go eq hash place c.args.self.now c.next-next.result.now.key 0
    (link_note record { ticket = c.args.row.now.ticket; segment = c.args.segment; keys = c.of-keys.result; behind = c.of-behind.result })
    c.args.front.now.log c.link.new.front.log c.requires.log c.in-Ok.ensures.joins.leaves

pub returns-in-Ok-clause-links : goal.returns-in-Ok-clause-links
returns-in-Ok-clause-links g c =
    let eq = g.K.PartialEq.eq in
    let hash = hash_in g.S.BuildHasher g.S.Hasher.Hasher g.K.Hash.hash_input in
    let place = place_in g.S.BuildHasher g.S.Hasher.Hasher g.K.Hash.hash_input in
    let equals = divided g.S.BuildHasher g.S.Hasher.Hasher g.K.Hash.hash_input eq g.met.K.Eq.laws g.met.K.Hash.respects_eq in
    let t = c.args.self.now in
    let old = c.args.front.now.log in
    let new = c.link.new.front.log in
    let row = c.args.row.now in
    let segment = c.args.segment in
    let next = c.next-next.result.now.key in
    linked_so eq hash place equals t old old c.requires.log (prefix_self old) segment c.requires.segment row.ticket row.words.items row.behind row.pen.nib
    c.requires.row c.requires.behind c.requires.announced c.requires.wanted new next
    (subst (λ n. JoinsRow eq hash place next row.pen.nib.key (ArrayLinked row.ticket segment (Some (suc segment)) (keys_in row.words.items) n) old new) (ap first c.of-behind.ensures)
    (subst (λ ns. JoinsRow eq hash place next row.pen.nib.key (ArrayLinked row.ticket segment (Some (suc segment)) ns (first c.of-behind.result.numbers)) old new) c.of-keys.ensures
    c.in-Ok.ensures.joins))

pub returns-clause-goes_on : goal.returns-clause-goes_on
returns-clause-goes_on g c =
    let eq = g.K.PartialEq.eq in
    let hash = hash_in g.S.BuildHasher g.S.Hasher.Hasher g.K.Hash.hash_input in
    let place = place_in g.S.BuildHasher g.S.Hasher.Hasher g.K.Hash.hash_input in
    let sees = c.in-Err.ensures.sees in
    goes_by eq hash place c.args.self.now c.args.front.now.log c.link.new.front.log c.requires.log sees.begins sees.kept

pub returns-clause-links : goal.returns-clause-links
returns-clause-links g c =
    let eq = g.K.PartialEq.eq in
    let hash = hash_in g.S.BuildHasher g.S.Hasher.Hasher g.K.Hash.hash_input in
    let place = place_in g.S.BuildHasher g.S.Hasher.Hasher g.K.Hash.hash_input in
    let equals = divided g.S.BuildHasher g.S.Hasher.Hasher g.K.Hash.hash_input eq g.met.K.Eq.laws g.met.K.Hash.respects_eq in
    let t = c.args.self.now in
    let old = c.args.front.now.log in
    let new = c.link.new.front.log in
    let row = c.args.row.now in
    there_so eq hash place equals t old old c.requires.log (prefix_self old) c.args.segment c.requires.segment row.ticket row.words.items row.behind row.pen.nib
    c.requires.row c.requires.behind c.requires.announced c.requires.wanted new c.next-next.result.now.key (ap (λ w. w.key) c.next-next.ensures) c.in-Err.array
    c.in-Err.ensures.sees c.in-Err.ensures.other
