use Rattle.std.proofs.Common.{refl, rules}
use Rattle.moka_shelf.specs.Looks.{hiding}
use Rattle.moka_history.proofs.Lists.{prefix_through}
use Rattle.moka_shared.specs.Hashing.{hash_in, place_in}
use Rattle.moka_shared.specs.Removals.{value_of}
use Rattle.moka_shared.proofs.Answered.{legal_of}
use Rattle.moka_shared.proofs.Since.{last_since, changes_made, changes_since}
use Rattle.moka_shared.proofs.Tested.{computes}
use Rattle.moka_growth.specs.declared.kinds.CallKind.TheVariants as kind
use Rattle.moka_shared.specs.Accesses.{ChangedSo}
use Rattle.moka_shared.proofs.Courses.{come_sooner}
use Rattle.moka_shared.proofs.table.HashMap.change_once.Goals as goal

pub change-requires-clause-computes : goal.change-requires-clause-computes
change-requires-clause-computes g c = computes _ (λ a r f' k. search rules)

pub returns-clause-legal : goal.returns-clause-legal
returns-clause-legal g c =
    legal_of g.K.PartialEq.eq (hash_in g.S.BuildHasher g.S.Hasher.Hasher g.K.Hash.hash_input)
    (place_in g.S.BuildHasher g.S.Hasher.Hasher g.K.Hash.hash_input) c.change.new.seat.front.log c.change.ensures.goes_on.is_log.kept

pub returns-clause-made : goal.returns-clause-made
returns-clause-made g c = λ was.
    let eq = g.K.PartialEq.eq in
    let hash = hash_in g.S.BuildHasher g.S.Hasher.Hasher g.K.Hash.hash_input in
    let place = place_in g.S.BuildHasher g.S.Hasher.Hasher g.K.Hash.hash_input in
    let t = c.args.self.now in
    let old = c.args.seat.now in
    let new = c.change.new.seat in
    let start = c.learn.new.self in
    let rises = last_since eq hash place start.log c.learn.ensures.4.1.1 old.front.log c.learn.ensures.2 in
    changes_made eq hash place (hiding g.L.Shelf.hidden g.L.Shelf.last) t c.args.hash old new
    (prefix_through old.front.log start.log new.front.log c.learn.ensures.2 c.change.ensures.goes_on.begins)
    c.change.ensures.goes_on.is_log.kept was c.args.key.now (value_of c.args.put) c.change.result
    (changes_since eq place (hiding g.L.Shelf.hidden g.L.Shelf.last) t c.args.hash old record { front = start; hidden = old.hidden; drawn = old.drawn; mine = old.mine }
    new c.learn.ensures.2 refl rises refl refl c.args.key.now (value_of c.args.put) c.change.result c.change.ensures.answers)

pub returns-clause-answers : goal.returns-clause-answers
returns-clause-answers g c =
    let eq = g.K.PartialEq.eq in
    let hash = hash_in g.S.BuildHasher g.S.Hasher.Hasher g.K.Hash.hash_input in
    let place = place_in g.S.BuildHasher g.S.Hasher.Hasher g.K.Hash.hash_input in
    let t = c.args.self.now in
    let old = c.args.seat.now in
    let new = c.change.new.seat in
    let start = c.learn.new.self in
    let rises = last_since eq hash place start.log c.learn.ensures.4.1.1 old.front.log c.learn.ensures.2 in
    changes_since eq place (hiding g.L.Shelf.hidden g.L.Shelf.last) t c.args.hash old record { front = start; hidden = old.hidden; drawn = old.drawn; mine = old.mine }
    new c.learn.ensures.2 refl rises refl refl c.args.key.now (value_of c.args.put) c.change.result c.change.ensures.answers

pub returns-clause-accesses : goal.returns-clause-accesses
returns-clause-accesses g c =
    let eq = g.K.PartialEq.eq in
    let hash = hash_in g.S.BuildHasher g.S.Hasher.Hasher g.K.Hash.hash_input in
    let place = place_in g.S.BuildHasher g.S.Hasher.Hasher g.K.Hash.hash_input in
    let t = c.args.self.now in
    let key = c.args.key.now in
    come_sooner eq hash place t key kind.Remove c.args.hash c.args.seat.now.front.log c.learn.new.self.log c.change.new.seat.front.log
    (ChangedSo t.size (place t.hasher t.segments key) c.change.result) c.learn.ensures.2 c.change.ensures.accesses
