use Rattle.std.proofs.Common.{◌≡◌, ◌∙◌, ap, arith, refl, subst, suc, sym}
use Rattle.moka_history.specs.declared.note.Note.TheVariants.{Swung}
use Rattle.moka_shared.specs.Asks.{swing_note}
use Rattle.moka_shared.specs.Hashing.{hash_in, place_in}
use Rattle.moka_shared.specs.Rows.{Leaves}
use Rattle.moka_shared.proofs.Divided.{divided}
use Rattle.moka_shared.proofs.Rowing.{goes_by, leaves_go}
use Rattle.moka_shared.proofs.Swung.{has_swung, may_swing, swung_so}
use Rattle.moka_shared.proofs.table.HashMap.swing_to.Goals as goal

pub swing-requires-clause-book : goal.swing-requires-clause-book
swing-requires-clause-book g c =
    let is = c.root-root.ensures in
    (ap (λ w. w.tracked) is, ap (λ w. w.book) is ∙ sym c.requires.book)

pub swing-requires-clause-may : goal.swing-requires-clause-may
swing-requires-clause-may g c =
    let eq = g.K.PartialEq.eq in
    let hash = hash_in g.S.BuildHasher g.S.Hasher.Hasher g.K.Hash.hash_input in
    let place = place_in g.S.BuildHasher g.S.Hasher.Hasher g.K.Hash.hash_input in
    let equals = divided g.S.BuildHasher g.S.Hasher.Hasher g.K.Hash.hash_input eq g.met.K.Eq.laws g.met.K.Hash.respects_eq in
    let segment = c.args.segment in
    let from_is : c.first_array.result ≡ suc segment = (let is = c.first_array.ensures in omega (arith, is)) in
    may_swing eq hash place equals c.args.self.now segment c.requires.segment c.args.front.now.log c.requires.log c.args.array c.requires.wanted
    c.root-root.result.now.key (ap (λ w. w.key) c.root-root.ensures)
    record { segment = segment; from = c.first_array.result; to = c.args.array } refl from_is refl

pub returns-in-Ok-clause-goes_on : goal.returns-in-Ok-clause-goes_on
returns-in-Ok-clause-goes_on g c =
    let eq = g.K.PartialEq.eq in
    let hash = hash_in g.S.BuildHasher g.S.Hasher.Hasher g.K.Hash.hash_input in
    let place = place_in g.S.BuildHasher g.S.Hasher.Hasher g.K.Hash.hash_input in
    leaves_go eq hash place c.args.self.now c.root-root.result.now.key 0
    (swing_note record { segment = c.args.segment; from = c.first_array.result; to = c.args.array })
    c.args.front.now.log c.swing.new.front.log c.requires.log c.in-Ok.ensures.leaves

pub returns-in-Ok-clause-swings : goal.returns-in-Ok-clause-swings
returns-in-Ok-clause-swings g c =
    let eq = g.K.PartialEq.eq in
    let hash = hash_in g.S.BuildHasher g.S.Hasher.Hasher g.K.Hash.hash_input in
    let place = place_in g.S.BuildHasher g.S.Hasher.Hasher g.K.Hash.hash_input in
    let equals = divided g.S.BuildHasher g.S.Hasher.Hasher g.K.Hash.hash_input eq g.met.K.Eq.laws g.met.K.Hash.respects_eq in
    let segment = c.args.segment in
    let from_is : c.first_array.result ≡ suc segment = (let is = c.first_array.ensures in omega (arith, is)) in
    let root = c.root-root.result.now.key in
    let old = c.args.front.now.log in
    let new = c.swing.new.front.log in
    swung_so eq hash place equals c.args.self.now segment c.requires.segment old new c.requires.log c.args.array c.requires.wanted
    root (ap (λ w. w.key) c.root-root.ensures)
    (subst (λ n. Leaves eq hash place root 0 (Swung segment n c.args.array) old new) from_is c.in-Ok.ensures.leaves)

pub returns-in-Err-clause-goes_on : goal.returns-in-Err-clause-goes_on
returns-in-Err-clause-goes_on g c =
    let eq = g.K.PartialEq.eq in
    let hash = hash_in g.S.BuildHasher g.S.Hasher.Hasher g.K.Hash.hash_input in
    let place = place_in g.S.BuildHasher g.S.Hasher.Hasher g.K.Hash.hash_input in
    let sees = c.in-Err.ensures.sees in
    goes_by eq hash place c.args.self.now c.args.front.now.log c.swing.new.front.log c.requires.log sees.begins sees.kept

pub returns-in-Err-clause-swings : goal.returns-in-Err-clause-swings
returns-in-Err-clause-swings g c =
    let eq = g.K.PartialEq.eq in
    let hash = hash_in g.S.BuildHasher g.S.Hasher.Hasher g.K.Hash.hash_input in
    let place = place_in g.S.BuildHasher g.S.Hasher.Hasher g.K.Hash.hash_input in
    let equals = divided g.S.BuildHasher g.S.Hasher.Hasher g.K.Hash.hash_input eq g.met.K.Eq.laws g.met.K.Hash.respects_eq in
    has_swung eq hash place equals c.args.self.now c.args.segment c.requires.segment c.args.front.now.log c.swing.new.front.log c.requires.log
    c.args.array c.requires.wanted c.root-root.result.now.key (ap (λ w. w.key) c.root-root.ensures) c.in-Err.other c.in-Err.ensures.sees c.in-Err.ensures.other
