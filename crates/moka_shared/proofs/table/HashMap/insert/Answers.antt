use Rattle.std.proofs.Common.{◌<◌, ap, arith, inl, refl, subst, sym}
use Rattle.moka_shelf.specs.Looks.{hiding}
use Rattle.moka_shared.specs.Hashing.{hash_in, place_in, segment_of}
use Rattle.moka_shared.proofs.Divided.{divided}
use Rattle.moka_shared.proofs.Drawing.{last_rises}
use Rattle.moka_shared.proofs.Filled.{filled}
use Rattle.moka_shared.proofs.Since.{inserts_since}
use Rattle.moka_shared.proofs.Loading.{pair_read}
use Rattle.moka_shared.proofs.Placed.{segment_below}
use Rattle.moka_growth.specs.declared.kinds.CallKind.TheVariants as kind
use Rattle.moka_pairs.specs.Keys.{own_by}
use Rattle.moka_shared.specs.Probing.{own_keys}
use Rattle.moka_shared.proofs.Courses.{come_so}
use Rattle.moka_shared.proofs.Turned.{insert_course}
use Rattle.moka_shared.specs.Accesses.{HasCome, MissedSo}
use Rattle.moka_shared.proofs.table.HashMap.insert.Goals as goal

pub insert_at-requires-clause-node : goal.insert_at-requires-clause-node
insert_at-requires-clause-node g c = c.in-At.ensures.stops.2

pub insert_at-requires-clause-below : goal.insert_at-requires-clause-below
insert_at-requires-clause-below g c =
    segment_below c.args.self.now.segments c.args.hash c.requires.log.some (let f = c.ranges.hash.fits in omega (arith, f))

pub returns-in-At-clause-puts : goal.returns-in-At-clause-puts
returns-in-At-clause-puts g c =
    let eq = g.K.PartialEq.eq in
    let hash = hash_in g.S.BuildHasher g.S.Hasher.Hasher g.K.Hash.hash_input in
    let place = place_in g.S.BuildHasher g.S.Hasher.Hasher g.K.Hash.hash_input in
    let t = c.args.self.now in
    let old = c.args.seat.now in
    let goes = c.seek-ended.ensures.goes_on in
    inserts_since eq place (hiding g.L.Shelf.hidden g.L.Shelf.last) t c.args.hash old record { front = c.seek-ended.new.front; hidden = c.seek-ended.new.hidden; drawn = old.drawn; mine = old.mine }
    c.insert_at.new.seat goes.begins refl (last_rises eq hash place t old.front.log c.seek-ended.new.front.log c.requires.log goes.is_log goes.begins)
    c.in-At.ensures.stops.1 refl c.args.key.now c.args.value.now c.insert_at.result c.insert_at.ensures.puts

pub returns-in-Full-clause-puts : goal.returns-in-Full-clause-puts
returns-in-Full-clause-puts g c =
    let eq = g.K.PartialEq.eq in
    let hash = hash_in g.S.BuildHasher g.S.Hasher.Hasher g.K.Hash.hash_input in
    let place = place_in g.S.BuildHasher g.S.Hasher.Hasher g.K.Hash.hash_input in
    let t = c.args.self.now in
    let equals = divided g.S.BuildHasher g.S.Hasher.Hasher g.K.Hash.hash_input eq g.met.K.Eq.laws g.met.K.Hash.respects_eq in
    let key = c.args.key.now in
    let below = segment_below t.segments c.args.hash c.requires.log.some (let f = c.ranges.hash.fits in omega (arith, f)) in
    let own_below : place t.hasher t.segments key < t.segments = subst (λ n. segment_of t.segments n < t.segments) c.requires.hash below in
    let size_is = ap (λ s. s.size) c.self.view_is in
    let probed = c.in-Full.ensures.ends key c.requires.computes c.requires.hash in (
      record { mine = refl; none = inl refl },
      (
        size_is,
        filled eq hash place equals t key own_below c.args.hash c.requires.hash c.seek-ended.new.front.log c.seek-ended.ensures.goes_on.is_log probed.0
            (segment_of t.segments c.args.hash) c.self.inside.size (ap (segment_of t.segments) c.requires.hash) size_is,
      ),
    )

pub returns-in-Hidden-clause-puts : goal.returns-in-Hidden-clause-puts
returns-in-Hidden-clause-puts g c =
    let eq = g.K.PartialEq.eq in
    let hash = hash_in g.S.BuildHasher g.S.Hasher.Hasher g.K.Hash.hash_input in
    let place = place_in g.S.BuildHasher g.S.Hasher.Hasher g.K.Hash.hash_input in
    let t = c.args.self.now in
    let log = c.seek-ended.new.front.log in
    let below = segment_below t.segments c.args.hash c.requires.log.some (let f = c.ranges.hash.fits in omega (arith, f)) in
    let told = c.in-Hidden.ensures.stops in
    let pair = pair_read eq hash place t log c.seek-ended.ensures.goes_on.is_log c.args.hash c.in-Hidden.number below told.0 in
    (record { mine = refl; none = inl refl }, record { reads = told.0; pair = pair.0; named = pair.1; hides = told.1 })

pub returns-in-At-clause-accesses : goal.returns-in-At-clause-accesses
returns-in-At-clause-accesses g c =
    let eq = g.K.PartialEq.eq in
    let hash = hash_in g.S.BuildHasher g.S.Hasher.Hasher g.K.Hash.hash_input in
    let place = place_in g.S.BuildHasher g.S.Hasher.Hasher g.K.Hash.hash_input in
    let t = c.args.self.now in
    let key = c.args.key.now in
    let ends = c.in-At.ensures.ends key c.requires.computes c.requires.hash in
    insert_course eq hash place t key c.args.hash c.in-At.passed (ap (segment_of t.segments) c.requires.hash) c.in-At.word
    (own_by eq (own_keys place t key c.seek-ended.new.front.log) key) ends.opens c.args.seat.now.front.log c.seek-ended.new.front.log c.insert_at.new.seat.front.log
    c.insert_at.ensures.goes_on.begins (c.in-At.ensures.course key kind.Insert tt c.requires.computes c.requires.hash) c.insert_at.result c.insert_at.ensures.exchange

pub returns-in-Hidden-clause-accesses : goal.returns-in-Hidden-clause-accesses
returns-in-Hidden-clause-accesses g c = c.in-Hidden.ensures.course c.args.key.now kind.Insert tt c.requires.computes c.requires.hash

pub returns-in-Sealed-clause-accesses : goal.returns-in-Sealed-clause-accesses
returns-in-Sealed-clause-accesses g c =
    let eq = g.K.PartialEq.eq in
    let hash = hash_in g.S.BuildHasher g.S.Hasher.Hasher g.K.Hash.hash_input in
    let place = place_in g.S.BuildHasher g.S.Hasher.Hasher g.K.Hash.hash_input in
    let t = c.args.self.now in
    let key = c.args.key.now in
    subst (λ m. HasCome eq hash place t key kind.Insert c.args.hash c.args.seat.now.front.log c.seek-ended.new.front.log
    (MissedSo t.size (place t.hasher t.segments key) m)) (sym c.sealed.ensures.is)
    (c.in-Sealed.ensures.course key kind.Insert tt c.requires.computes c.requires.hash)

pub returns-in-Full-clause-accesses : goal.returns-in-Full-clause-accesses
returns-in-Full-clause-accesses g c =
    let eq = g.K.PartialEq.eq in
    let hash = hash_in g.S.BuildHasher g.S.Hasher.Hasher g.K.Hash.hash_input in
    let place = place_in g.S.BuildHasher g.S.Hasher.Hasher g.K.Hash.hash_input in
    let t = c.args.self.now in
    let key = c.args.key.now in
    let first = c.args.seat.now.front.log in
    let log = c.seek-ended.new.front.log in
    come_so eq hash place t key kind.Insert c.args.hash first log _ (λ step. Unit {0}) (λ step is. tt)
    (c.in-Full.ensures.course key kind.Insert tt c.requires.computes c.requires.hash)
