use Rattle.std.proofs.Common.{◌∙◌, ap, arith, refl, subst, suc, sym}
use Rattle.moka_words.specs.Words.{node_of}
use Rattle.moka_growth.proofs.Exchanging.{seal_node}
use Rattle.moka_history.specs.Cells.{number_of}
use Rattle.moka_history.specs.declared.note.Note.TheVariants.{Sealed}
use Rattle.moka_shared.specs.Asks.{seal_note}
use Rattle.moka_shared.specs.Hashing.{hash_in, place_in}
use Rattle.moka_shared.specs.Looks.{IsSealedIn}
use Rattle.moka_shared.specs.Steps.{Sees}
use Rattle.moka_shared.proofs.Loading.{loaded}
use Rattle.moka_shared.proofs.Rowing.{leaves_go}
use Rattle.moka_shared.proofs.Sealing.{may_seal, met_there, seal_stands, sealed_then}
use Rattle.moka_shared.proofs.table.HashMap.seal_at.Goals as goal

pub number_of-requires-2 : goal.number_of-requires-2
number_of-requires-2 g c = λ n names.
    c.requires.word.1 n (sym (seal_node c.args.word) ∙ (ap node_of (sym c.seal_of-to.ensures) ∙ names))

pub seal-requires-clause-book : goal.seal-requires-clause-book
seal-requires-clause-book g c =
    let is = c.bucket-bucket.ensures in
    (ap (λ w. w.tracked) is, ap (λ w. w.book) is ∙ sym c.requires.book)

pub seal-requires-clause-may : goal.seal-requires-clause-may
seal-requires-clause-may g c =
    let eq = g.K.PartialEq.eq in
    let hash = hash_in g.S.BuildHasher g.S.Hasher.Hasher g.K.Hash.hash_input in
    let place = place_in g.S.BuildHasher g.S.Hasher.Hasher g.K.Hash.hash_input in
    let t = c.args.self.now in
    let segment = c.args.segment in
    let index = c.args.index in
    may_seal eq hash place t c.args.front.now.log c.requires.log segment index c.requires.segment c.requires.index c.args.word c.requires.word.1 c.requires.word.2
    c.bucket-bucket.result.now.key c.number_of.result c.number_of-2.result record { array = c.first_array.result; index = index; to = c.seal_of-to.result } (let is = c.first_array.ensures in omega (arith, is)) refl
    c.seal_of-to.ensures (ap (λ w. w.key) c.bucket-bucket.ensures) c.number_of.ensures (c.number_of-2.ensures ∙ ap number_of c.seal_of-to.ensures)

pub returns-in-Ok-clause-goes_on : goal.returns-in-Ok-clause-goes_on
returns-in-Ok-clause-goes_on g c =
    let eq = g.K.PartialEq.eq in
    let hash = hash_in g.S.BuildHasher g.S.Hasher.Hasher g.K.Hash.hash_input in
    let place = place_in g.S.BuildHasher g.S.Hasher.Hasher g.K.Hash.hash_input in
    let t = c.args.self.now in
    leaves_go eq hash place t c.bucket-bucket.result.now.key c.number_of.result (seal_note record { array = c.first_array.result; index = c.args.index; to = c.seal_of-to.result })
    c.args.front.now.log c.seal.new.front.log c.requires.log c.in-Ok.ensures.leaves

pub returns-in-Ok-clause-seals : goal.returns-in-Ok-clause-seals
returns-in-Ok-clause-seals g c =
    let eq = g.K.PartialEq.eq in
    let hash = hash_in g.S.BuildHasher g.S.Hasher.Hasher g.K.Hash.hash_input in
    let place = place_in g.S.BuildHasher g.S.Hasher.Hasher g.K.Hash.hash_input in
    let t = c.args.self.now in
    let segment = c.args.segment in
    let index = c.args.index in
    subst (λ w. IsSealedIn w (suc segment) index c.seal.new.front.log) c.seal_of-to.ensures
    (sealed_then eq hash place t c.args.front.now.log c.requires.log segment index c.requires.segment c.requires.index c.seal.new.front.log c.args.word c.seal_of-to.result
    c.seal_of-to.ensures c.bucket-bucket.result.now.key c.number_of.result (seal_note record { array = c.first_array.result; index = index; to = c.seal_of-to.result })
    (ap (λ a. Sealed a index c.seal_of-to.result) (let is = c.first_array.ensures in omega (arith, is))) c.in-Ok.ensures.leaves)

pub returns-in-Err-clause-meets : goal.returns-in-Err-clause-meets
returns-in-Err-clause-meets g c =
    let eq = g.K.PartialEq.eq in
    let hash = hash_in g.S.BuildHasher g.S.Hasher.Hasher g.K.Hash.hash_input in
    let place = place_in g.S.BuildHasher g.S.Hasher.Hasher g.K.Hash.hash_input in
    let t = c.args.self.now in
    let old = c.args.front.now.log in
    let segment = c.args.segment in
    let index = c.args.index in
    let new = c.seal.new.front.log in
    let word = c.word_of.result in
    let sees = subst (λ k. Sees eq hash place k c.in-Err.found old new) (ap (λ w. w.key) c.bucket-bucket.ensures) c.in-Err.ensures.sees in
    let loads = loaded eq hash place t old new c.requires.log segment index c.requires.segment c.requires.index c.in-Err.found sees word c.word_of.ensures in (
      λ sealed. seal_stands eq hash place t new loads.goes_on.is_log segment index c.requires.segment c.requires.index word loads.there sealed,
      λ bare. met_there eq hash place t old c.requires.log segment index c.requires.segment c.requires.index new c.args.word c.requires.word.0 c.in-Err.found sees
          (λ same. c.in-Err.ensures.other (same ∙ sym c.number_of.ensures)) word loads bare,
    )
