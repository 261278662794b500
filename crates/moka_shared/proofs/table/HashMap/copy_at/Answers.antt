use Rattle.std.proofs.Common.{◌∙◌, ap, length, refl, sym}
use Rattle.std.proofs.lemmas.Option.{slice_get_read}
use Rattle.std.specs.Option.{option_map}
use Rattle.moka_history.proofs.Lists.{map_get, prefix_self}
use Rattle.moka_shared.specs.Asks.{copy_note}
use Rattle.moka_shared.specs.Hashing.{hash_in, place_in}
use Rattle.moka_shared.proofs.Divided.{divided}
use Rattle.moka_shared.proofs.Joining.{copied_so, may_copy, set_so}
use Rattle.moka_shared.proofs.Rowing.{goes_by, leaves_go}
use Rattle.moka_shared.proofs.table.HashMap.copy_at.Goals as goal

pub copy-requires-clause-book : goal.copy-requires-clause-book
copy-requires-clause-book g c =
    let words = c.args.row.now.words.items in
    let at = slice_get_read words (length words) c.args.index c.index.result.now refl c.requires.index c.index.ensures in
    let named = (c.requires.row.each c.args.index c.index.result.now at).named in
    (ap (λ w. w.tracked) named, ap (λ w. w.book) named ∙ sym c.requires.book)

pub copy-requires-clause-may : goal.copy-requires-clause-may
copy-requires-clause-may g c =
    let eq = g.K.PartialEq.eq in
    let hash = hash_in g.S.BuildHasher g.S.Hasher.Hasher g.K.Hash.hash_input in
    let place = place_in g.S.BuildHasher g.S.Hasher.Hasher g.K.Hash.hash_input in
    let equals = divided g.S.BuildHasher g.S.Hasher.Hasher g.K.Hash.hash_input eq g.met.K.Eq.laws g.met.K.Hash.respects_eq in
    let words = c.args.row.now.words.items in
    let at = slice_get_read words (length words) c.args.index c.index.result.now refl c.requires.index c.index.ensures in
    let t = c.args.self.now in
    let old = c.args.front.now.log in
    let key = c.index.result.now.key in
    let ticket = c.args.row.now.ticket in
    let there = c.requires.follows.words c.args.index key (map_get (λ w. w.key) words c.args.index ∙ ap (option_map (λ w. w.key)) at) in
    may_copy eq hash place equals t old old c.requires.log (prefix_self old) c.args.segment ticket c.args.index c.args.to c.requires.wanted key there
    record { array = ticket; index = c.args.index; to = c.args.to } refl refl refl c.number_of.result c.number_of.ensures

pub returns-in-Ok-clause-goes_on : goal.returns-in-Ok-clause-goes_on
returns-in-Ok-clause-goes_on g c =
    let eq = g.K.PartialEq.eq in
    let hash = hash_in g.S.BuildHasher g.S.Hasher.Hasher g.K.Hash.hash_input in
    let place = place_in g.S.BuildHasher g.S.Hasher.Hasher g.K.Hash.hash_input in
    leaves_go eq hash place c.args.self.now c.index.result.now.key 1 (copy_note record { array = c.args.row.now.ticket; index = c.args.index; to = c.args.to })
    c.args.front.now.log c.copy.new.front.log c.requires.log c.in-Ok.ensures.leaves

pub returns-in-Ok-clause-copies : goal.returns-in-Ok-clause-copies
returns-in-Ok-clause-copies g c =
    let eq = g.K.PartialEq.eq in
    let hash = hash_in g.S.BuildHasher g.S.Hasher.Hasher g.K.Hash.hash_input in
    let place = place_in g.S.BuildHasher g.S.Hasher.Hasher g.K.Hash.hash_input in
    let equals = divided g.S.BuildHasher g.S.Hasher.Hasher g.K.Hash.hash_input eq g.met.K.Eq.laws g.met.K.Hash.respects_eq in
    let words = c.args.row.now.words.items in
    let at = slice_get_read words (length words) c.args.index c.index.result.now refl c.requires.index c.index.ensures in
    let t = c.args.self.now in
    let old = c.args.front.now.log in
    let key = c.index.result.now.key in
    let ticket = c.args.row.now.ticket in
    let there = c.requires.follows.words c.args.index key (map_get (λ w. w.key) words c.args.index ∙ ap (option_map (λ w. w.key)) at) in
    copied_so eq hash place equals t old old c.requires.log (prefix_self old) c.args.segment ticket c.args.index c.args.to c.requires.wanted key there
    c.copy.new.front.log c.in-Ok.ensures.leaves

pub returns-in-Err-clause-goes_on : goal.returns-in-Err-clause-goes_on
returns-in-Err-clause-goes_on g c =
    let eq = g.K.PartialEq.eq in
    let hash = hash_in g.S.BuildHasher g.S.Hasher.Hasher g.K.Hash.hash_input in
    let place = place_in g.S.BuildHasher g.S.Hasher.Hasher g.K.Hash.hash_input in
    let sees = c.in-Err.ensures.sees in
    goes_by eq hash place c.args.self.now c.args.front.now.log c.copy.new.front.log c.requires.log sees.begins sees.kept

pub returns-in-Err-clause-copies : goal.returns-in-Err-clause-copies
returns-in-Err-clause-copies g c =
    let eq = g.K.PartialEq.eq in
    let hash = hash_in g.S.BuildHasher g.S.Hasher.Hasher g.K.Hash.hash_input in
    let place = place_in g.S.BuildHasher g.S.Hasher.Hasher g.K.Hash.hash_input in
    let equals = divided g.S.BuildHasher g.S.Hasher.Hasher g.K.Hash.hash_input eq g.met.K.Eq.laws g.met.K.Hash.respects_eq in
    let words = c.args.row.now.words.items in
    let at = slice_get_read words (length words) c.args.index c.index.result.now refl c.requires.index c.index.ensures in
    let t = c.args.self.now in
    let old = c.args.front.now.log in
    let key = c.index.result.now.key in
    let ticket = c.args.row.now.ticket in
    let there = c.requires.follows.words c.args.index key (map_get (λ w. w.key) words c.args.index ∙ ap (option_map (λ w. w.key)) at) in
    set_so eq hash place equals t old old c.requires.log (prefix_self old) c.args.segment ticket c.args.index c.args.to c.requires.wanted key there
    c.copy.new.front.log c.in-Err.field-0 c.in-Err.ensures.sees c.in-Err.ensures.other
