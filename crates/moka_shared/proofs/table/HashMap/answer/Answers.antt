use Rattle.std.proofs.Common.{◌≡◌, ◌<◌, None, Some, arith, refl, subst}
use Rattle.moka_words.specs.Words.{stored_in}
use Rattle.moka_pairs.specs.Pairs.{pair_at}
use Rattle.moka_history.specs.Entries.{map_after}
use Rattle.moka_history.specs.Logs.{entries_of, state_of}
use Rattle.moka_shared.specs.Hashing.{hash_in, place_in, segment_of}
use Rattle.moka_growth.specs.Calls.{Step}
use Rattle.moka_growth.specs.declared.kinds.CallKind.TheVariants as kind
use Rattle.moka_pairs.specs.Keys.{own_by}
use Rattle.moka_shared.specs.Accesses.{EndsSo, FoundSo}
use Rattle.moka_shared.proofs.Courses.{found_word}
use Rattle.moka_shared.specs.Looks.{Finds, HasCause, IsFound, IsSo}
use Rattle.moka_shared.specs.Probing.{Ends, StopsAt, own_keys}
use Rattle.moka_shared.proofs.Answered.{ended_finds, ended_so, full_finds}
use Rattle.moka_shared.proofs.Divided.{divided}
use Rattle.moka_shared.proofs.Found.{if_ok_both, if_ok_to}
use Rattle.moka_shared.proofs.Loading.{pair_read}
use Rattle.moka_shared.proofs.Placed.{segment_below}
use Rattle.moka_shared.proofs.Shown.{found_cause}
use Rattle.moka_shared.proofs.table.HashMap.answer.Goals as goal

pub returns-in-At-clause-found : goal.returns-in-At-clause-found
returns-in-At-clause-found g c =
    let eq = g.K.PartialEq.eq in
    let hash = hash_in g.S.BuildHasher g.S.Hasher.Hasher g.K.Hash.hash_input in
    let place = place_in g.S.BuildHasher g.S.Hasher.Hasher g.K.Hash.hash_input in
    let equals = divided g.S.BuildHasher g.S.Hasher.Hasher g.K.Hash.hash_input eq g.met.K.Eq.laws g.met.K.Hash.respects_eq in
    let t = c.args.self.now in
    let log = c.args.front.now.log in
    let below = segment_below t.segments c.args.hash c.requires.log.some (let f = c.ranges.hash.fits in omega (arith, f)) in
    if_ok_to (Finds (pair_at (state_of log).pairs (stored_in c.in-At.word)))
    (λ got. (q : _) → c.args.hash ≡ hash t.hasher q → Ends eq place t q c.args.hash log c.args.ended → Finds (map_after eq (entries_of log) q) got)
    c.copied.result
    (λ got finds q h_is ends. ended_finds eq hash place equals t q (subst (λ n. segment_of t.segments n < t.segments) h_is below) c.args.hash h_is log c.requires.log
    c.in-At.passed c.in-At.word (subst (Ends eq place t q c.args.hash log) c.in-At.is ends) got finds) c.copied.ensures.found

pub returns-in-At-clause-fact : goal.returns-in-At-clause-fact
returns-in-At-clause-fact g c =
    let eq = g.K.PartialEq.eq in
    let hash = hash_in g.S.BuildHasher g.S.Hasher.Hasher g.K.Hash.hash_input in
    let place = place_in g.S.BuildHasher g.S.Hasher.Hasher g.K.Hash.hash_input in
    let equals = divided g.S.BuildHasher g.S.Hasher.Hasher g.K.Hash.hash_input eq g.met.K.Eq.laws g.met.K.Hash.respects_eq in
    let t = c.args.self.now in
    let log = c.args.front.now.log in
    let below = segment_below t.segments c.args.hash c.requires.log.some (let f = c.ranges.hash.fits in omega (arith, f)) in
    if_ok_both (Finds (pair_at (state_of log).pairs (stored_in c.in-At.word)))
    (λ got. (p : _) → pair_at (state_of log).pairs (stored_in c.in-At.word) ≡ Some p → IsSo (g.P.Fact.holds p.0) got)
    (λ got. (q : _) → c.args.hash ≡ hash t.hasher q → Ends eq place t q c.args.hash log c.args.ended → IsSo (g.P.Fact.holds q) got)
    c.copied.result
    (λ got finds so q h_is ends. ended_so eq hash place equals t q (subst (λ n. segment_of t.segments n < t.segments) h_is below) c.args.hash h_is log c.requires.log
    g.P.Fact.holds g.met.P.Fact.alike
    c.in-At.passed c.in-At.word (subst (Ends eq place t q c.args.hash log) c.in-At.is ends) got finds so) c.copied.ensures.found c.copied.ensures.fact

pub returns-in-At-clause-again : goal.returns-in-At-clause-again
returns-in-At-clause-again g c =
    let t = c.args.self.now in
    let log = c.args.front.now.log in
    if_ok_to IsFound (λ got. (before hidden : _) → StopsAt t c.args.hash log before hidden c.args.ended → HasCause t c.args.hash log before hidden got) c.copied.result
    (λ got found before hidden stops. found_cause t c.args.hash log before hidden (subst (StopsAt t c.args.hash log before hidden) c.in-At.is stops).1 got found)
    c.copied.ensures.ends

pub returns-in-At-clause-course : goal.returns-in-At-clause-course
returns-in-At-clause-course g c =
    let eq = g.K.PartialEq.eq in
    let hash = hash_in g.S.BuildHasher g.S.Hasher.Hasher g.K.Hash.hash_input in
    let place = place_in g.S.BuildHasher g.S.Hasher.Hasher g.K.Hash.hash_input in
    let t = c.args.self.now in
    let log = c.args.front.now.log in
    let pairs = (state_of log).pairs in
    if_ok_both (Finds (pair_at pairs (stored_in c.in-At.word))) IsFound
    (λ got. (q : _) (step : Step) → c.args.hash ≡ hash t.hasher q → Ends eq place t q c.args.hash log c.args.ended →
    EndsSo t.size (place t.hasher t.segments q) kind.Get c.args.hash c.args.ended step → FoundSo pairs got step)
    c.copied.result
    (λ got finds found q step h_is ends so. found_word eq t pairs (place t.hasher t.segments q) c.args.hash c.in-At.passed (own_by eq (own_keys place t q log) q) c.in-At.word
    (subst (Ends eq place t q c.args.hash log) c.in-At.is ends).opens got found finds step
    (subst (λ e. EndsSo t.size (place t.hasher t.segments q) kind.Get c.args.hash e step) c.in-At.is so)) c.copied.ensures.found c.copied.ensures.ends

pub returns-in-Full-clause-course : goal.returns-in-Full-clause-course
returns-in-Full-clause-course g c = λ q step h_is ends so.
    let place = place_in g.S.BuildHasher g.S.Hasher.Hasher g.K.Hash.hash_input in
    let t = c.args.self.now in
    let past = subst (λ e. EndsSo t.size (place t.hasher t.segments q) kind.Get c.args.hash e step) c.in-Full.is so in
    (None, past.1, refl)

pub returns-in-Full-clause-found : goal.returns-in-Full-clause-found
returns-in-Full-clause-found g c = λ q h_is ends.
    let eq = g.K.PartialEq.eq in
    let hash = hash_in g.S.BuildHasher g.S.Hasher.Hasher g.K.Hash.hash_input in
    let place = place_in g.S.BuildHasher g.S.Hasher.Hasher g.K.Hash.hash_input in
    let equals = divided g.S.BuildHasher g.S.Hasher.Hasher g.K.Hash.hash_input eq g.met.K.Eq.laws g.met.K.Hash.respects_eq in
    let t = c.args.self.now in
    let log = c.args.front.now.log in
    let below = segment_below t.segments c.args.hash c.requires.log.some (let f = c.ranges.hash.fits in omega (arith, f)) in
    full_finds eq hash place equals t q (subst (λ n. segment_of t.segments n < t.segments) h_is below) c.args.hash h_is log c.requires.log
    (subst (Ends eq place t q c.args.hash log) c.in-Full.is ends)

pub returns-in-Hidden-clause-again : goal.returns-in-Hidden-clause-again
returns-in-Hidden-clause-again g c = λ before hidden stops.
    let eq = g.K.PartialEq.eq in
    let hash = hash_in g.S.BuildHasher g.S.Hasher.Hasher g.K.Hash.hash_input in
    let place = place_in g.S.BuildHasher g.S.Hasher.Hasher g.K.Hash.hash_input in
    let t = c.args.self.now in
    let log = c.args.front.now.log in
    let below = segment_below t.segments c.args.hash c.requires.log.some (let f = c.ranges.hash.fits in omega (arith, f)) in
    let told = subst (StopsAt t c.args.hash log before hidden) c.in-Hidden.is stops in
    let pair = pair_read eq hash place t log c.requires.log c.args.hash c.in-Hidden.number below told.0 in
    record { reads = told.0; pair = pair.0; named = pair.1; hides = told.1 }
