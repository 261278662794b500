use Rattle.std.proofs.Common.{None, ◌<◌, ap, arith, inl, refl, subst, ◌≡◌, sym}
use Rattle.moka_shelf.specs.Looks.{hiding}
use Rattle.moka_shared.specs.Hashing.{hash_in, place_in, segment_of}
use Rattle.moka_shared.specs.Removals.{value_of}
use Rattle.moka_shared.proofs.Divided.{divided}
use Rattle.moka_shared.proofs.Drawing.{last_rises}
use Rattle.moka_shared.proofs.Loading.{pair_read}
use Rattle.moka_shared.proofs.Placed.{segment_below}
use Rattle.moka_shared.proofs.Probed.{full_is_history}
use Rattle.moka_shared.proofs.Since.{changes_since}
use Rattle.moka_growth.specs.declared.kinds.CallKind.TheVariants as kind
use Rattle.moka_growth.specs.Calls.{Decided, Kept}
use Rattle.moka_pairs.specs.Keys.{own_by}
use Rattle.moka_shared.specs.Probing.{own_keys}
use Rattle.moka_shared.proofs.Courses.{come_so}
use Rattle.moka_shared.proofs.Turned.{change_course}
use Rattle.moka_shared.specs.Accesses.{HasCome, MissedSo}
use Rattle.moka_shared.proofs.table.HashMap.change.Goals as goal

pub change_at-requires-clause-node : goal.change_at-requires-clause-node
change_at-requires-clause-node g c = c.in-At.ensures.stops.2

pub change_at-requires-clause-below : goal.change_at-requires-clause-below
change_at-requires-clause-below g c =
    segment_below c.args.self.now.segments c.args.hash c.requires.log.some (let f = c.ranges.hash.fits in omega (arith, f))

pub returns-in-At-clause-answers : goal.returns-in-At-clause-answers
returns-in-At-clause-answers g c =
    let eq = g.K.PartialEq.eq in
    let hash = hash_in g.S.BuildHasher g.S.Hasher.Hasher g.K.Hash.hash_input in
    let place = place_in g.S.BuildHasher g.S.Hasher.Hasher g.K.Hash.hash_input in
    let t = c.args.self.now in
    let old = c.args.seat.now in
    let goes = c.seek-ended.ensures.goes_on in
    changes_since eq place (hiding g.L.Shelf.hidden g.L.Shelf.last) t c.args.hash old record { front = c.seek-ended.new.front; hidden = c.seek-ended.new.hidden; drawn = old.drawn; mine = old.mine }
    c.change_at.new.seat goes.begins refl (last_rises eq hash place t old.front.log c.seek-ended.new.front.log c.requires.log goes.is_log goes.begins)
    c.in-At.ensures.stops.1 refl c.args.key.now (value_of c.args.put) c.change_at.result c.change_at.ensures.answers

pub returns-in-Full-clause-answers : goal.returns-in-Full-clause-answers
returns-in-Full-clause-answers g c =
    let eq = g.K.PartialEq.eq in
    let hash = hash_in g.S.BuildHasher g.S.Hasher.Hasher g.K.Hash.hash_input in
    let place = place_in g.S.BuildHasher g.S.Hasher.Hasher g.K.Hash.hash_input in
    let t = c.args.self.now in
    let equals = divided g.S.BuildHasher g.S.Hasher.Hasher g.K.Hash.hash_input eq g.met.K.Eq.laws g.met.K.Hash.respects_eq in
    let key = c.args.key.now in
    let below = segment_below t.segments c.args.hash c.requires.log.some (let f = c.ranges.hash.fits in omega (arith, f)) in
    let own_below : place t.hasher t.segments key < t.segments = subst (λ n. segment_of t.segments n < t.segments) c.requires.hash below in
    let probed = c.in-Full.ensures.ends key c.requires.computes c.requires.hash in
    ((refl, refl), full_is_history eq hash place equals t key own_below c.args.hash c.requires.hash c.seek-ended.new.front.log c.seek-ended.ensures.goes_on.is_log probed)

pub returns-in-Hidden-clause-answers : goal.returns-in-Hidden-clause-answers
returns-in-Hidden-clause-answers g c =
    let eq = g.K.PartialEq.eq in
    let hash = hash_in g.S.BuildHasher g.S.Hasher.Hasher g.K.Hash.hash_input in
    let place = place_in g.S.BuildHasher g.S.Hasher.Hasher g.K.Hash.hash_input in
    let t = c.args.self.now in
    let log = c.seek-ended.new.front.log in
    let below = segment_below t.segments c.args.hash c.requires.log.some (let f = c.ranges.hash.fits in omega (arith, f)) in
    let told = c.in-Hidden.ensures.stops in
    let pair = pair_read eq hash place t log c.seek-ended.ensures.goes_on.is_log c.args.hash c.in-Hidden.number below told.0 in
    (record { mine = refl; none = inl refl }, record { reads = told.0; pair = pair.0; named = pair.1; hides = told.1 })

pub returns-in-At-clause-accesses : goal.returns-in-At-clause-accesses
returns-in-At-clause-accesses g c =
    let eq = g.K.PartialEq.eq in
    let hash = hash_in g.S.BuildHasher g.S.Hasher.Hasher g.K.Hash.hash_input in
    let place = place_in g.S.BuildHasher g.S.Hasher.Hasher g.K.Hash.hash_input in
    let t = c.args.self.now in
    let key = c.args.key.now in
    let ends = c.in-At.ensures.ends key c.requires.computes c.requires.hash in
    change_course eq hash place t key c.args.hash c.in-At.passed (ap (segment_of t.segments) c.requires.hash) c.in-At.word
    (own_by eq (own_keys place t key c.seek-ended.new.front.log) key) ends.opens c.args.seat.now.front.log c.seek-ended.new.front.log c.change_at.new.seat.front.log
    c.change_at.ensures.goes_on.begins (c.in-At.ensures.course key kind.Remove tt c.requires.computes c.requires.hash) c.change_at.result c.change_at.ensures.exchange

pub returns-in-Hidden-clause-accesses : goal.returns-in-Hidden-clause-accesses
returns-in-Hidden-clause-accesses g c = c.in-Hidden.ensures.course c.args.key.now kind.Remove tt c.requires.computes c.requires.hash

pub returns-in-Sealed-clause-accesses : goal.returns-in-Sealed-clause-accesses
returns-in-Sealed-clause-accesses g c =
    let eq = g.K.PartialEq.eq in
    let hash = hash_in g.S.BuildHasher g.S.Hasher.Hasher g.K.Hash.hash_input in
    let place = place_in g.S.BuildHasher g.S.Hasher.Hasher g.K.Hash.hash_input in
    let t = c.args.self.now in
    let key = c.args.key.now in
    subst (λ m. HasCome eq hash place t key kind.Remove c.args.hash c.args.seat.now.front.log c.seek-ended.new.front.log
    (MissedSo t.size (place t.hasher t.segments key) m)) (sym c.sealed.ensures.is)
    (c.in-Sealed.ensures.course key kind.Remove tt c.requires.computes c.requires.hash)

pub returns-in-Full-clause-accesses : goal.returns-in-Full-clause-accesses
returns-in-Full-clause-accesses g c =
    let eq = g.K.PartialEq.eq in
    let hash = hash_in g.S.BuildHasher g.S.Hasher.Hasher g.K.Hash.hash_input in
    let place = place_in g.S.BuildHasher g.S.Hasher.Hasher g.K.Hash.hash_input in
    let t = c.args.self.now in
    let key = c.args.key.now in
    let first = c.args.seat.now.front.log in
    let log = c.seek-ended.new.front.log in
    come_so eq hash place t key kind.Remove c.args.hash first log _ (λ step. step ≡ Decided (Kept None)) (λ step is. is.1)
    (c.in-Full.ensures.course key kind.Remove tt c.requires.computes c.requires.hash)
