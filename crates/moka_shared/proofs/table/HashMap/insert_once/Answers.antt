use Rattle.std.proofs.Common.{refl, rules}
use Rattle.moka_shelf.specs.Looks.{hiding}
use Rattle.moka_history.proofs.Lists.{prefix_through}
use Rattle.moka_shared.specs.Hashing.{hash_in, place_in}
use Rattle.moka_shared.proofs.Answered.{legal_of}
use Rattle.moka_shared.proofs.Since.{last_since, inserts_made, inserts_since}
use Rattle.moka_shared.proofs.Tested.{computes}
use Rattle.moka_growth.specs.declared.kinds.CallKind.TheVariants as kind
use Rattle.moka_shared.specs.Accesses.{StoredSo}
use Rattle.moka_shared.proofs.Courses.{come_sooner}
use Rattle.moka_shared.proofs.table.HashMap.insert_once.Goals as goal

pub insert-requires-clause-computes : goal.insert-requires-clause-computes
insert-requires-clause-computes g c = computes _ (λ a r f' k. search rules)

pub returns-clause-legal : goal.returns-clause-legal
returns-clause-legal g c =
    legal_of g.K.PartialEq.eq (hash_in g.S.BuildHasher g.S.Hasher.Hasher g.K.Hash.hash_input)
    (place_in g.S.BuildHasher g.S.Hasher.Hasher g.K.Hash.hash_input) c.insert.new.seat.front.log c.insert.ensures.goes_on.is_log.kept

pub returns-clause-made : goal.returns-clause-made
returns-clause-made g c = λ was.
    let eq = g.K.PartialEq.eq in
    let hash = hash_in g.S.BuildHasher g.S.Hasher.Hasher g.K.Hash.hash_input in
    let place = place_in g.S.BuildHasher g.S.Hasher.Hasher g.K.Hash.hash_input in
    let t = c.args.self.now in
    let old = c.args.seat.now in
    let new = c.insert.new.seat in
    let start = c.learn.new.self in
    let rises = last_since eq hash place start.log c.learn.ensures.4.1.1 old.front.log c.learn.ensures.2 in
    inserts_made eq hash place (hiding g.L.Shelf.hidden g.L.Shelf.last) t c.args.hash old new
    (prefix_through old.front.log start.log new.front.log c.learn.ensures.2 c.insert.ensures.goes_on.begins)
    c.insert.ensures.goes_on.is_log.kept was c.args.key.now c.args.value.now c.insert.result
    (inserts_since eq place (hiding g.L.Shelf.hidden g.L.Shelf.last) t c.args.hash old record { front = start; hidden = old.hidden; drawn = old.drawn; mine = old.mine }
    new c.learn.ensures.2 refl rises refl refl c.args.key.now c.args.value.now c.insert.result c.insert.ensures.puts)

pub returns-clause-puts : goal.returns-clause-puts
returns-clause-puts g c =
    let eq = g.K.PartialEq.eq in
    let hash = hash_in g.S.BuildHasher g.S.Hasher.Hasher g.K.Hash.hash_input in
    let place = place_in g.S.BuildHasher g.S.Hasher.Hasher g.K.Hash.hash_input in
    let t = c.args.self.now in
    let old = c.args.seat.now in
    let new = c.insert.new.seat in
    let start = c.learn.new.self in
    let rises = last_since eq hash place start.log c.learn.ensures.4.1.1 old.front.log c.learn.ensures.2 in
    inserts_since eq place (hiding g.L.Shelf.hidden g.L.Shelf.last) t c.args.hash old record { front = start; hidden = old.hidden; drawn = old.drawn; mine = old.mine }
    new c.learn.ensures.2 refl rises refl refl c.args.key.now c.args.value.now c.insert.result c.insert.ensures.puts

pub returns-clause-accesses : goal.returns-clause-accesses
returns-clause-accesses g c =
    let eq = g.K.PartialEq.eq in
    let hash = hash_in g.S.BuildHasher g.S.Hasher.Hasher g.K.Hash.hash_input in
    let place = place_in g.S.BuildHasher g.S.Hasher.Hasher g.K.Hash.hash_input in
    let t = c.args.self.now in
    let key = c.args.key.now in
    come_sooner eq hash place t key kind.Insert c.args.hash c.args.seat.now.front.log c.learn.new.self.log c.insert.new.seat.front.log
    (StoredSo t.size (place t.hasher t.segments key) c.insert.result) c.learn.ensures.2 c.insert.ensures.accesses
