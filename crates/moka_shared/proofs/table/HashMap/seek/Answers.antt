use Rattle.std.proofs.Common.{◌≡◌, ◌∙◌, ◌<◌, ◌^◌, ap, arith, inl, inr, refl, subst}
use Rattle.moka_shelf.specs.Looks.{hiding}
use Rattle.moka_history.specs.Logs.{state_of}
use Rattle.moka_history.proofs.Lists.{prefix_self, prefix_through}
use Rattle.moka_shared.specs.Hashing.{hash_in, place_in}
use Rattle.moka_shared.specs.Meeting.{Hides, Meets, Stops}
use Rattle.moka_shared.specs.Probing.{HasProbed}
use Rattle.moka_shared.specs.Tables.{IsTable, names_of}
use Rattle.moka_shared.proofs.Courses.{comes_at_all, course_full, has_begun, power_some, probe_ends, probe_passes}
use Rattle.moka_shared.proofs.Divided.{divided}
use Rattle.moka_shared.proofs.Loading.{goes_through, reads_at}
use Rattle.moka_shared.proofs.Placed.{same_segment, segment_below}
use Rattle.moka_shared.proofs.Probed.{begins_probed, first_past, goes_past, stops_open}
use Rattle.moka_shared.proofs.table.HashMap.seek.Goals as goal

pub loop-passed-init : goal.loop-passed-init
loop-passed-init g c =
    let eq = g.K.PartialEq.eq in
    let hash = hash_in g.S.BuildHasher g.S.Hasher.Hasher g.K.Hash.hash_input in
    let place = place_in g.S.BuildHasher g.S.Hasher.Hasher g.K.Hash.hash_input in
    let equals = divided g.S.BuildHasher g.S.Hasher.Hasher g.K.Hash.hash_input eq g.met.K.Eq.laws g.met.K.Hash.respects_eq in
    let t = c.args.self.now in
    record {
      callable = c.requires.callable;
      book = refl;
      goes_on = record { begins = prefix_self c.args.front.now.log; is_log = c.requires.log };
      hidden = refl;
      course = λ key k has computes h_is. inl refl;
      knows = λ key computes h_is. (
        computes,
        begins_probed eq hash place equals t key (segment_below t.segments (hash t.hasher key) c.requires.log.some (subst (λ n. n < 2 ^ 64) h_is (let f = c.ranges.hash.fits in omega (arith, f))))
            c.args.hash h_is c.args.front.now.log,
        λ some. absurd (omega (arith, some)),
      );
    }

pub loop-passed-preserved : goal.loop-passed-preserved
loop-passed-preserved g c =
    let eq = g.K.PartialEq.eq in
    let hash = hash_in g.S.BuildHasher g.S.Hasher.Hasher g.K.Hash.hash_input in
    let place = place_in g.S.BuildHasher g.S.Hasher.Hasher g.K.Hash.hash_input in
    let equals = divided g.S.BuildHasher g.S.Hasher.Hasher g.K.Hash.hash_input eq g.met.K.Eq.laws g.met.K.Hash.respects_eq in
    let t = c.args.self.now in
    let inv = c.loop-passed.invariant in
    let loads = c.load-word.ensures.loads in
    let old = c.loop-passed.front.log in
    let new = c.load-word.new.front.log in
    let met = c.in-Other.is in
    record {
      callable = c.meets-met.ensures.callable;
      book = c.load-word.ensures.book ∙ inv.book;
      goes_on = record { begins = prefix_through c.args.front.now.log old new inv.goes_on.begins loads.goes_on.begins; is_log = loads.goes_on.is_log };
      hidden = subst (λ m. Stops (names_of t.book) c.load-word.result (hiding g.L.Shelf.hidden g.L.Shelf.last c.loop-passed.hidden)
          (hiding g.L.Shelf.hidden g.L.Shelf.last c.meets-met.new.hidden) m) met c.meets-met.ensures.stops ∙ inv.hidden;
      course = λ key k has computes h_is. inr (
          let known = inv.knows key computes h_is in
          let told = c.meets-met.ensures.meets (eq key) known.0 in
          probe_passes eq hash place equals t key (segment_below t.segments (hash t.hasher key) c.requires.log.some (subst (λ n. n < 2 ^ 64) h_is (let f = c.ranges.hash.fits in omega (arith, f))))
          c.args.hash h_is k has c.args.front.now.log old new inv.goes_on.is_log c.place_of-place.result.segment c.place_of-place.result.index c.load-word.result c.load-word.ensures.loads
          (same_segment t.segments c.place_of-place.result.segment c.args.hash (hash t.hasher key) c.place_of-place.ensures.segment h_is)
          c.loop-passed.passed c.place_of-place.ensures.index
          (subst (λ s. c.loop-passed.passed < s.size) c.self.view_is c.loop-passed-test.true) known.1 inv.goes_on.begins (inv.course key k has computes h_is)
          (subst (λ m. Meets (eq key) (state_of new).pairs c.load-word.result m) met told.1));
      knows = λ key computes h_is.
          let known = inv.knows key computes h_is in
          let told = c.meets-met.ensures.meets (eq key) known.0 in (
            told.0,
            goes_past eq hash place equals t key (segment_below t.segments (hash t.hasher key) c.requires.log.some (subst (λ n. n < 2 ^ 64) h_is (let f = c.ranges.hash.fits in omega (arith, f))))
                c.args.hash h_is old new inv.goes_on.is_log c.place_of-place.result.segment c.place_of-place.result.index c.load-word.result loads
                (same_segment t.segments c.place_of-place.result.segment c.args.hash (hash t.hasher key) c.place_of-place.ensures.segment h_is)
                c.loop-passed.passed c.place_of-place.ensures.index
                (subst (λ s. c.loop-passed.passed < s.size) c.self.view_is c.loop-passed-test.true) known.1
                (subst (λ m. Meets (eq key) (state_of new).pairs c.load-word.result m) met told.1),
            λ some. first_past eq hash place equals t key (segment_below t.segments (hash t.hasher key) c.requires.log.some (subst (λ n. n < 2 ^ 64) h_is (let f = c.ranges.hash.fits in omega (arith, f))))
                c.args.hash h_is old new inv.goes_on.is_log c.place_of-place.result.segment c.place_of-place.result.index c.load-word.result loads
                (same_segment t.segments c.place_of-place.result.segment c.args.hash (hash t.hasher key) c.place_of-place.ensures.segment h_is)
                c.loop-passed.passed c.place_of-place.ensures.index
                (subst (λ s. c.loop-passed.passed < s.size) c.self.view_is c.loop-passed-test.true) known.1
                (subst (λ m. Meets (eq key) (state_of new).pairs c.load-word.result m) met told.1),
          );
    }

pub returns-in-Open-clause-ends : goal.returns-in-Open-clause-ends
returns-in-Open-clause-ends g c = λ key computes h_is.
    let eq = g.K.PartialEq.eq in
    let hash = hash_in g.S.BuildHasher g.S.Hasher.Hasher g.K.Hash.hash_input in
    let place = place_in g.S.BuildHasher g.S.Hasher.Hasher g.K.Hash.hash_input in
    let equals = divided g.S.BuildHasher g.S.Hasher.Hasher g.K.Hash.hash_input eq g.met.K.Eq.laws g.met.K.Hash.respects_eq in
    let t = c.args.self.now in
    let inv = c.loop-passed.invariant in
    let old = c.loop-passed.front.log in
    let new = c.load-word.new.front.log in
    let known = inv.knows key computes h_is in
    let told = c.meets-met.ensures.meets (eq key) known.0 in
    stops_open eq hash place equals t key (segment_below t.segments (hash t.hasher key) c.requires.log.some (subst (λ n. n < 2 ^ 64) h_is (let f = c.ranges.hash.fits in omega (arith, f))))
    c.args.hash h_is old new inv.goes_on.is_log c.place_of-place.result.segment c.place_of-place.result.index c.load-word.result c.load-word.ensures.loads
    (same_segment t.segments c.place_of-place.result.segment c.args.hash (hash t.hasher key) c.place_of-place.ensures.segment h_is)
    c.loop-passed.passed c.place_of-place.ensures.index
    (subst (λ s. c.loop-passed.passed < s.size) c.self.view_is c.loop-passed-test.true) known.1 c.in-Open.node
    (subst (λ m. Meets (eq key) (state_of new).pairs c.load-word.result m) c.in-Open.is told.1)

pub returns-in-Open-clause-goes_on : goal.returns-in-Open-clause-goes_on
returns-in-Open-clause-goes_on g c =
    let eq = g.K.PartialEq.eq in
    let hash = hash_in g.S.BuildHasher g.S.Hasher.Hasher g.K.Hash.hash_input in
    let place = place_in g.S.BuildHasher g.S.Hasher.Hasher g.K.Hash.hash_input in
    let t = c.args.self.now in
    let inv = c.loop-passed.invariant in
    let old = c.loop-passed.front.log in
    let new = c.load-word.new.front.log in
    goes_through eq hash place t c.args.front.now.log old new inv.goes_on c.load-word.ensures.loads.goes_on

pub returns-in-Open-clause-stops : goal.returns-in-Open-clause-stops
returns-in-Open-clause-stops g c =
    let eq = g.K.PartialEq.eq in
    let hash = hash_in g.S.BuildHasher g.S.Hasher.Hasher g.K.Hash.hash_input in
    let place = place_in g.S.BuildHasher g.S.Hasher.Hasher g.K.Hash.hash_input in
    let t = c.args.self.now in
    let inv = c.loop-passed.invariant in
    let old = c.loop-passed.front.log in
    let new = c.load-word.new.front.log in
    let reads = reads_at eq hash place t old new c.place_of-place.result.segment c.place_of-place.result.index c.load-word.result c.load-word.ensures.loads c.args.hash c.loop-passed.passed
    c.place_of-place.ensures.segment
    c.place_of-place.ensures.index
    (subst (λ s. c.loop-passed.passed < s.size) c.self.view_is c.loop-passed-test.true) in
    let stops = subst (λ m. Stops (names_of t.book) c.load-word.result (hiding g.L.Shelf.hidden g.L.Shelf.last c.loop-passed.hidden)
    (hiding g.L.Shelf.hidden g.L.Shelf.last c.meets-met.new.hidden) m) c.in-Open.is c.meets-met.ensures.stops in
    (reads, stops.0 ∙ inv.hidden, stops.1)

pub returns-in-Hidden-clause-goes_on : goal.returns-in-Hidden-clause-goes_on
returns-in-Hidden-clause-goes_on g c =
    let eq = g.K.PartialEq.eq in
    let hash = hash_in g.S.BuildHasher g.S.Hasher.Hasher g.K.Hash.hash_input in
    let place = place_in g.S.BuildHasher g.S.Hasher.Hasher g.K.Hash.hash_input in
    let t = c.args.self.now in
    let inv = c.loop-passed.invariant in
    let old = c.loop-passed.front.log in
    let new = c.load-word.new.front.log in
    goes_through eq hash place t c.args.front.now.log old new inv.goes_on c.load-word.ensures.loads.goes_on

pub returns-in-Hidden-clause-stops : goal.returns-in-Hidden-clause-stops
returns-in-Hidden-clause-stops g c =
    let eq = g.K.PartialEq.eq in
    let hash = hash_in g.S.BuildHasher g.S.Hasher.Hasher g.K.Hash.hash_input in
    let place = place_in g.S.BuildHasher g.S.Hasher.Hasher g.K.Hash.hash_input in
    let t = c.args.self.now in
    let inv = c.loop-passed.invariant in
    let old = c.loop-passed.front.log in
    let new = c.load-word.new.front.log in
    let reads = reads_at eq hash place t old new c.place_of-place.result.segment c.place_of-place.result.index c.load-word.result c.load-word.ensures.loads c.args.hash c.loop-passed.passed
    c.place_of-place.ensures.segment
    c.place_of-place.ensures.index
    (subst (λ s. c.loop-passed.passed < s.size) c.self.view_is c.loop-passed-test.true) in
    let stops = subst (λ m. Stops (names_of t.book) c.load-word.result (hiding g.L.Shelf.hidden g.L.Shelf.last c.loop-passed.hidden)
    (hiding g.L.Shelf.hidden g.L.Shelf.last c.meets-met.new.hidden) m) c.in-Hidden.is c.meets-met.ensures.stops in (
      record { passed = c.loop-passed.passed; word = c.load-word.result; reads = reads; names = stops.0 },
      subst (λ h. Hides c.in-Hidden.number h (hiding g.L.Shelf.hidden g.L.Shelf.last c.meets-met.new.hidden)) inv.hidden stops.1,
    )

pub returns-in-Sealed-clause-goes_on : goal.returns-in-Sealed-clause-goes_on
returns-in-Sealed-clause-goes_on g c =
    let eq = g.K.PartialEq.eq in
    let hash = hash_in g.S.BuildHasher g.S.Hasher.Hasher g.K.Hash.hash_input in
    let place = place_in g.S.BuildHasher g.S.Hasher.Hasher g.K.Hash.hash_input in
    let t = c.args.self.now in
    let inv = c.loop-passed.invariant in
    let old = c.loop-passed.front.log in
    let new = c.load-word.new.front.log in
    goes_through eq hash place t c.args.front.now.log old new inv.goes_on c.load-word.ensures.loads.goes_on

pub returns-in-Sealed-clause-stops : goal.returns-in-Sealed-clause-stops
returns-in-Sealed-clause-stops g c =
    let eq = g.K.PartialEq.eq in
    let hash = hash_in g.S.BuildHasher g.S.Hasher.Hasher g.K.Hash.hash_input in
    let place = place_in g.S.BuildHasher g.S.Hasher.Hasher g.K.Hash.hash_input in
    let t = c.args.self.now in
    let inv = c.loop-passed.invariant in
    let old = c.loop-passed.front.log in
    let new = c.load-word.new.front.log in
    let reads = reads_at eq hash place t old new c.place_of-place.result.segment c.place_of-place.result.index c.load-word.result c.load-word.ensures.loads c.args.hash c.loop-passed.passed
    c.place_of-place.ensures.segment
    c.place_of-place.ensures.index
    (subst (λ s. c.loop-passed.passed < s.size) c.self.view_is c.loop-passed-test.true) in
    let stops = subst (λ m. Stops (names_of t.book) c.load-word.result (hiding g.L.Shelf.hidden g.L.Shelf.last c.loop-passed.hidden)
    (hiding g.L.Shelf.hidden g.L.Shelf.last c.meets-met.new.hidden) m) c.in-Sealed.is c.meets-met.ensures.stops in
    (reads, stops.0, stops.1 ∙ inv.hidden)

pub returns-in-Open-clause-course : goal.returns-in-Open-clause-course
returns-in-Open-clause-course g c = λ key k has computes h_is.
    let eq = g.K.PartialEq.eq in
    let hash = hash_in g.S.BuildHasher g.S.Hasher.Hasher g.K.Hash.hash_input in
    let place = place_in g.S.BuildHasher g.S.Hasher.Hasher g.K.Hash.hash_input in
    let equals = divided g.S.BuildHasher g.S.Hasher.Hasher g.K.Hash.hash_input eq g.met.K.Eq.laws g.met.K.Hash.respects_eq in
    let t = c.args.self.now in
    let inv = c.loop-passed.invariant in
    let first = c.args.front.now.log in
    let old = c.loop-passed.front.log in
    let new = c.load-word.new.front.log in
    let known = inv.knows key computes h_is in
    let come = inv.course key k has computes h_is in
    let told = c.meets-met.ensures.meets (eq key) known.0 in
    let ends = stops_open eq hash place equals t key (segment_below t.segments (hash t.hasher key) c.requires.log.some (subst (λ n. n < 2 ^ 64) h_is (let f = c.ranges.hash.fits in omega (arith, f))))
    c.args.hash h_is old new inv.goes_on.is_log c.place_of-place.result.segment c.place_of-place.result.index c.load-word.result c.load-word.ensures.loads
    (same_segment t.segments c.place_of-place.result.segment c.args.hash (hash t.hasher key) c.place_of-place.ensures.segment h_is)
    c.loop-passed.passed c.place_of-place.ensures.index
    (subst (λ s. c.loop-passed.passed < s.size) c.self.view_is c.loop-passed-test.true) known.1 c.in-Open.node
    (subst (λ m. Meets (eq key) (state_of new).pairs c.load-word.result m) c.in-Open.is told.1) in
    probe_ends eq hash place equals t key (segment_below t.segments (hash t.hasher key) c.requires.log.some (subst (λ n. n < 2 ^ 64) h_is (let f = c.ranges.hash.fits in omega (arith, f))))
    c.args.hash h_is k has first old new inv.goes_on.is_log c.place_of-place.result.segment c.place_of-place.result.index c.load-word.result c.load-word.ensures.loads
    (same_segment t.segments c.place_of-place.result.segment c.args.hash (hash t.hasher key) c.place_of-place.ensures.segment h_is)
    c.loop-passed.passed c.place_of-place.ensures.index
    (subst (λ s. c.loop-passed.passed < s.size) c.self.view_is c.loop-passed-test.true) known.1 inv.goes_on.begins come ends

pub returns-in-Hidden-clause-course : goal.returns-in-Hidden-clause-course
returns-in-Hidden-clause-course g c = λ key k has computes h_is.
    let eq = g.K.PartialEq.eq in
    let hash = hash_in g.S.BuildHasher g.S.Hasher.Hasher g.K.Hash.hash_input in
    let place = place_in g.S.BuildHasher g.S.Hasher.Hasher g.K.Hash.hash_input in
    let equals = divided g.S.BuildHasher g.S.Hasher.Hasher g.K.Hash.hash_input eq g.met.K.Eq.laws g.met.K.Hash.respects_eq in
    let t = c.args.self.now in
    let goes = goes_through eq hash place t c.args.front.now.log c.loop-passed.front.log c.load-word.new.front.log c.loop-passed.invariant.goes_on c.load-word.ensures.loads.goes_on in
    comes_at_all eq hash place equals t key (segment_below t.segments (hash t.hasher key) c.requires.log.some (subst (λ n. n < 2 ^ 64) h_is (let f = c.ranges.hash.fits in omega (arith, f))))
    c.args.hash h_is k has c.args.front.now.log c.load-word.new.front.log goes.begins

pub returns-in-Sealed-clause-course : goal.returns-in-Sealed-clause-course
returns-in-Sealed-clause-course g c = λ key k has computes h_is.
    let eq = g.K.PartialEq.eq in
    let hash = hash_in g.S.BuildHasher g.S.Hasher.Hasher g.K.Hash.hash_input in
    let place = place_in g.S.BuildHasher g.S.Hasher.Hasher g.K.Hash.hash_input in
    let equals = divided g.S.BuildHasher g.S.Hasher.Hasher g.K.Hash.hash_input eq g.met.K.Eq.laws g.met.K.Hash.respects_eq in
    let t = c.args.self.now in
    let goes = goes_through eq hash place t c.args.front.now.log c.loop-passed.front.log c.load-word.new.front.log c.loop-passed.invariant.goes_on c.load-word.ensures.loads.goes_on in
    comes_at_all eq hash place equals t key (segment_below t.segments (hash t.hasher key) c.requires.log.some (subst (λ n. n < 2 ^ 64) h_is (let f = c.ranges.hash.fits in omega (arith, f))))
    c.args.hash h_is k has c.args.front.now.log c.load-word.new.front.log goes.begins

pub returns-clause-course : goal.returns-clause-course
returns-clause-course g c = λ key k has computes h_is.
    let eq = g.K.PartialEq.eq in
    let hash = hash_in g.S.BuildHasher g.S.Hasher.Hasher g.K.Hash.hash_input in
    let place = place_in g.S.BuildHasher g.S.Hasher.Hasher g.K.Hash.hash_input in
    let equals = divided g.S.BuildHasher g.S.Hasher.Hasher g.K.Hash.hash_input eq g.met.K.Eq.laws g.met.K.Hash.respects_eq in
    let t = c.args.self.now in
    let most = c.loop-passed.auto.passed-end in
    let least = c.loop-passed-test.false in
    let all : c.loop-passed.passed ≡ c.self.inside.size = omega (arith, most, least) in
    let well = subst (λ s. IsTable s c.self.inside.start.log c.self.inside.door c.self.inside.buckets.items c.self.inside.nexts.items c.self.inside.roots.items (g.L.Shelf.owner c.self.inside.shelf)) c.self.view_is c.self.invariant in
    let all_passed = all ∙ ap (λ s. s.size) c.self.view_is in
    let some = power_some t.size well.power in
    course_full eq hash place equals t key (segment_below t.segments (hash t.hasher key) c.requires.log.some (subst (λ n. n < 2 ^ 64) h_is (let f = c.ranges.hash.fits in omega (arith, f))))
    c.args.hash h_is k has c.args.front.now.log c.loop-passed.front.log c.loop-passed.passed all_passed some
    (has_begun (c.loop-passed.passed) _ (omega (arith, all_passed, some)) (c.loop-passed.invariant.course key k has computes h_is))

pub returns-clause-ends : goal.returns-clause-ends
returns-clause-ends g c = λ key computes h_is.
    let place = place_in g.S.BuildHasher g.S.Hasher.Hasher g.K.Hash.hash_input in
    let t = c.args.self.now in
    let most = c.loop-passed.auto.passed-end in
    let least = c.loop-passed-test.false in
    let all : c.loop-passed.passed ≡ c.self.inside.size = omega (arith, most, least) in
    let well = subst (λ s. IsTable s c.self.inside.start.log c.self.inside.door c.self.inside.buckets.items c.self.inside.nexts.items c.self.inside.roots.items (g.L.Shelf.owner c.self.inside.shelf)) c.self.view_is c.self.invariant in
    let all_passed = all ∙ ap (λ s. s.size) c.self.view_is in
    let some = power_some t.size well.power in
    let known = c.loop-passed.invariant.knows key computes h_is in (
      subst (λ n. HasProbed g.K.PartialEq.eq place t key c.args.hash c.loop-passed.front.log n) all_passed known.1,
      known.2 (omega (arith, all_passed, some)),
    )
