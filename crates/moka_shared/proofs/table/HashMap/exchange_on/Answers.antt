use Rattle.std.proofs.Common.{◌∙◌, ap, sym}
use Rattle.moka_shared.specs.Hashing.{hash_in, place_in, segment_of}
use Rattle.moka_shared.proofs.Divided.{divided}
use Rattle.moka_shared.proofs.Since.{none_made}
use Rattle.moka_shared.proofs.Exchanging.{adds_entry, exchanged, may_change, met_entry, met_other, reads}
use Rattle.moka_shared.proofs.table.HashMap.exchange_on.Goals as goal

pub number_of-requires : goal.number_of-requires
number_of-requires g c = c.requires.can.3.small.0

pub number_of-requires-2 : goal.number_of-requires-2
number_of-requires-2 g c = c.requires.can.3.small.1

pub exchange-requires-clause-book : goal.exchange-requires-clause-book
exchange-requires-clause-book g c =
    let is = c.bucket-bucket.ensures in
    (ap (λ w. w.tracked) is, ap (λ w. w.book) is ∙ sym c.requires.book, c.requires.pen.0)

pub exchange-requires-clause-may : goal.exchange-requires-clause-may
exchange-requires-clause-may g c =
    let eq = g.K.PartialEq.eq in
    let hash = hash_in g.S.BuildHasher g.S.Hasher.Hasher g.K.Hash.hash_input in
    let place = place_in g.S.BuildHasher g.S.Hasher.Hasher g.K.Hash.hash_input in
    let t = c.args.self.now in
    let equals = divided g.S.BuildHasher g.S.Hasher.Hasher g.K.Hash.hash_input eq g.met.K.Eq.laws g.met.K.Hash.respects_eq in
    let gap = c.args.gap.now in
    let at = c.place_of-place.result in
    let can = c.requires.can.3 in
    may_change eq hash place equals t c.requires.can.0 gap.hash gap.passed gap.word c.args.to c.args.ticket c.requires.can.1 c.requires.can.2 c.args.front.now.log can c.requires.log
    at.segment at.index c.place_of-place.ensures.segment (ap (segment_of t.segments) can.hashed) c.place_of-place.ensures.index c.place_of-place.ensures.below
    c.place_of-place.ensures.inside c.bucket-bucket.result.now.key c.number_of.result (ap (λ w. w.key) c.bucket-bucket.ensures) c.number_of.ensures c.number_of-2.result c.number_of-2.ensures

pub returns-in-Ok-clause-done : goal.returns-in-Ok-clause-done
returns-in-Ok-clause-done g c = λ key e found can.
    let eq = g.K.PartialEq.eq in
    let hash = hash_in g.S.BuildHasher g.S.Hasher.Hasher g.K.Hash.hash_input in
    let place = place_in g.S.BuildHasher g.S.Hasher.Hasher g.K.Hash.hash_input in
    let t = c.args.self.now in
    let equals = divided g.S.BuildHasher g.S.Hasher.Hasher g.K.Hash.hash_input eq g.met.K.Eq.laws g.met.K.Hash.respects_eq in
    let gap = c.args.gap.now in
    let at = c.place_of-place.result in
    adds_entry eq hash place equals t key gap.hash gap.passed gap.word c.args.to c.args.ticket e found c.args.front.now.log can c.requires.log
    at.segment at.index c.place_of-place.ensures.segment (ap (segment_of t.segments) can.hashed) c.place_of-place.ensures.index c.place_of-place.ensures.below
    c.place_of-place.ensures.inside c.bucket-bucket.result.now.key c.number_of.result (ap (λ w. w.key) c.bucket-bucket.ensures) c.number_of.ensures
    c.exchange.new.front.log c.in-Ok.ensures.spends

pub returns-in-Ok-clause-exchanged : goal.returns-in-Ok-clause-exchanged
returns-in-Ok-clause-exchanged g c =
    let eq = g.K.PartialEq.eq in
    let hash = hash_in g.S.BuildHasher g.S.Hasher.Hasher g.K.Hash.hash_input in
    let place = place_in g.S.BuildHasher g.S.Hasher.Hasher g.K.Hash.hash_input in
    let t = c.args.self.now in
    let equals = divided g.S.BuildHasher g.S.Hasher.Hasher g.K.Hash.hash_input eq g.met.K.Eq.laws g.met.K.Hash.respects_eq in
    let gap = c.args.gap.now in
    let at = c.place_of-place.result in
    let can = c.requires.can.3 in
    exchanged eq hash place equals t c.requires.can.0 gap.hash gap.passed gap.word c.args.to c.args.ticket c.requires.can.1 c.requires.can.2 c.args.front.now.log can c.requires.log
    at.segment at.index c.place_of-place.ensures.segment (ap (segment_of t.segments) can.hashed) c.place_of-place.ensures.index c.place_of-place.ensures.below
    c.place_of-place.ensures.inside c.bucket-bucket.result.now.key c.number_of.result (ap (λ w. w.key) c.bucket-bucket.ensures) c.number_of.ensures
    c.exchange.new.front.log c.in-Ok.ensures.spends

pub returns-in-Err-clause-met : goal.returns-in-Err-clause-met
returns-in-Err-clause-met g c = λ bare key e found can.
    let eq = g.K.PartialEq.eq in
    let hash = hash_in g.S.BuildHasher g.S.Hasher.Hasher g.K.Hash.hash_input in
    let place = place_in g.S.BuildHasher g.S.Hasher.Hasher g.K.Hash.hash_input in
    let t = c.args.self.now in
    let equals = divided g.S.BuildHasher g.S.Hasher.Hasher g.K.Hash.hash_input eq g.met.K.Eq.laws g.met.K.Hash.respects_eq in
    let gap = c.args.gap.now in
    let at = c.place_of-place.result in
    met_entry eq hash place equals t key gap.hash gap.passed gap.word c.args.to c.args.ticket e found c.args.front.now.log can c.requires.log
    at.segment at.index c.place_of-place.ensures.segment (ap (segment_of t.segments) can.hashed) c.place_of-place.ensures.index c.place_of-place.ensures.below
    c.place_of-place.ensures.inside c.bucket-bucket.result.now.key c.number_of.result (ap (λ w. w.key) c.bucket-bucket.ensures) c.number_of.ensures
    c.exchange.new.front.log c.in-Err.found c.in-Err.ensures.sees c.in-Err.ensures.other c.args.pen.now.nib.key c.in-Err.ensures.away c.word_of.result c.word_of.ensures bare

pub returns-in-Err-clause-reads : goal.returns-in-Err-clause-reads
returns-in-Err-clause-reads g c =
    let eq = g.K.PartialEq.eq in
    let hash = hash_in g.S.BuildHasher g.S.Hasher.Hasher g.K.Hash.hash_input in
    let place = place_in g.S.BuildHasher g.S.Hasher.Hasher g.K.Hash.hash_input in
    let t = c.args.self.now in
    let equals = divided g.S.BuildHasher g.S.Hasher.Hasher g.K.Hash.hash_input eq g.met.K.Eq.laws g.met.K.Hash.respects_eq in
    let gap = c.args.gap.now in
    let at = c.place_of-place.result in
    let can = c.requires.can.3 in
    reads eq hash place equals t c.requires.can.0 gap.hash gap.passed gap.word c.args.to c.args.ticket c.requires.can.1 c.requires.can.2 c.args.front.now.log can c.requires.log
    at.segment at.index c.place_of-place.ensures.segment (ap (segment_of t.segments) can.hashed) c.place_of-place.ensures.index c.place_of-place.ensures.below
    c.place_of-place.ensures.inside c.bucket-bucket.result.now.key c.number_of.result (ap (λ w. w.key) c.bucket-bucket.ensures) c.number_of.ensures
    c.exchange.new.front.log c.in-Err.found c.in-Err.ensures.sees c.in-Err.ensures.other c.args.pen.now.nib.key c.in-Err.ensures.away c.word_of.result c.word_of.ensures

pub returns-in-Err-clause-other : goal.returns-in-Err-clause-other
returns-in-Err-clause-other g c =
    let eq = g.K.PartialEq.eq in
    let hash = hash_in g.S.BuildHasher g.S.Hasher.Hasher g.K.Hash.hash_input in
    let place = place_in g.S.BuildHasher g.S.Hasher.Hasher g.K.Hash.hash_input in
    let t = c.args.self.now in
    let equals = divided g.S.BuildHasher g.S.Hasher.Hasher g.K.Hash.hash_input eq g.met.K.Eq.laws g.met.K.Hash.respects_eq in
    let gap = c.args.gap.now in
    let at = c.place_of-place.result in
    let can = c.requires.can.3 in
    met_other eq hash place equals t c.requires.can.0 gap.hash gap.passed gap.word c.args.to c.args.ticket c.requires.can.1 c.requires.can.2 c.args.front.now.log can c.requires.log
    at.segment at.index c.place_of-place.ensures.segment (ap (segment_of t.segments) can.hashed) c.place_of-place.ensures.index c.place_of-place.ensures.below
    c.place_of-place.ensures.inside c.bucket-bucket.result.now.key c.number_of.result (ap (λ w. w.key) c.bucket-bucket.ensures) c.number_of.ensures
    c.exchange.new.front.log c.in-Err.found c.in-Err.ensures.sees c.in-Err.ensures.other c.args.pen.now.nib.key c.in-Err.ensures.away c.word_of.result c.word_of.ensures

pub returns-in-Err-clause-none : goal.returns-in-Err-clause-none
returns-in-Err-clause-none g c =
    none_made g.K.PartialEq.eq (hash_in g.S.BuildHasher g.S.Hasher.Hasher g.K.Hash.hash_input)
    (place_in g.S.BuildHasher g.S.Hasher.Hasher g.K.Hash.hash_input) c.exchange.new.front.log c.in-Err.ensures.sees.kept c.args.pen.now.nib.key
    c.args.ticket c.in-Err.ensures.away
