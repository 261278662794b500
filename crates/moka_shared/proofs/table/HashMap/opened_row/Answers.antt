use Rattle.std.proofs.Common.{◌∙◌, refl, subst, sym}
use Rattle.std.specs.Prelude.{IsSome}
use Rattle.moka_shared.specs.Hashing.{hash_in, place_in}
use Rattle.moka_shared.specs.Rows.{IsOfRow}
use Rattle.moka_shared.proofs.Loading.{goes_through, opened_some}
use Rattle.moka_shared.proofs.Rowing.{goes_by, holds_ticket, still_planned}
use Rattle.moka_shared.proofs.table.HashMap.opened_row.Goals as goal

pub filled-words-requires-clause-log : goal.filled-words-requires-clause-log
filled-words-requires-clause-log g c =
    let eq = g.K.PartialEq.eq in
    let hash = hash_in g.S.BuildHasher g.S.Hasher.Hasher g.K.Hash.hash_input in
    let place = place_in g.S.BuildHasher g.S.Hasher.Hasher g.K.Hash.hash_input in
    let made = c.make_word-behind in
    (goes_by eq hash place c.args.self.now c.args.front.now.log made.new.front.log c.requires.log made.ensures.begins made.ensures.kept).is_log

pub filled-words-requires-clause-planned : goal.filled-words-requires-clause-planned
filled-words-requires-clause-planned g c =
    let eq = g.K.PartialEq.eq in
    let hash = hash_in g.S.BuildHasher g.S.Hasher.Hasher g.K.Hash.hash_input in
    let place = place_in g.S.BuildHasher g.S.Hasher.Hasher g.K.Hash.hash_input in
    let t = c.args.self.now in
    let old = c.args.front.now.log in
    let made = c.make_word-behind in
    still_planned eq hash place old made.new.front.log (opened_some t.segments t.size t.hasher old c.requires.log.opened) made.ensures.begins made.ensures.kept
    c.args.drawn.ticket (subst IsSome (sym c.requires.planned.1.plan_is) refl)

pub filled-words-requires-clause-behind : goal.filled-words-requires-clause-behind
filled-words-requires-clause-behind g c =
    let made = c.make_word-behind in
    subst (λ b. IsOfRow b c.args.drawn.ticket made.result made.new.front.log) (made.ensures.book ∙ c.requires.book) made.ensures.word

pub returns-clause-goes_on : goal.returns-clause-goes_on
returns-clause-goes_on g c =
    let eq = g.K.PartialEq.eq in
    let hash = hash_in g.S.BuildHasher g.S.Hasher.Hasher g.K.Hash.hash_input in
    let place = place_in g.S.BuildHasher g.S.Hasher.Hasher g.K.Hash.hash_input in
    let t = c.args.self.now in
    let old = c.args.front.now.log in
    let made = c.make_word-behind in
    goes_through eq hash place t old made.new.front.log c.filled-words.new.front.log
    (goes_by eq hash place t old made.new.front.log c.requires.log made.ensures.begins made.ensures.kept) c.filled-words.ensures.goes_on

pub returns-clause-holds : goal.returns-clause-holds
returns-clause-holds g c = λ plan announced.
    let eq = g.K.PartialEq.eq in
    let hash = hash_in g.S.BuildHasher g.S.Hasher.Hasher g.K.Hash.hash_input in
    let place = place_in g.S.BuildHasher g.S.Hasher.Hasher g.K.Hash.hash_input in
    let t = c.args.self.now in
    let old = c.args.front.now.log in
    let made = c.make_word-behind in
    let goes = goes_through eq hash place t old made.new.front.log c.filled-words.new.front.log
    (goes_by eq hash place t old made.new.front.log c.requires.log made.ensures.begins made.ensures.kept) c.filled-words.ensures.goes_on in
    holds_ticket eq hash place old c.filled-words.new.front.log (opened_some t.segments t.size t.hasher old c.requires.log.opened) goes.begins goes.is_log.kept
    c.args.drawn.ticket plan c.args.drawn.pen.nib announced
