use Rattle.std.proofs.Common.{◌≡◌, ◌∙◌, ap, subst, sym}
use Rattle.moka_shelf.specs.Looks.{hiding}
use Rattle.moka_growth.specs.Calls.{Step}
use Rattle.moka_growth.specs.declared.kinds.CallKind.TheVariants as kind
use Rattle.moka_shared.specs.Accesses.{EndsSo, FoundSo, HasCome}
use Rattle.moka_shared.proofs.Courses.{come_so, come_sooner}
use Rattle.moka_history.specs.Logs.{entries_of, state_of}
use Rattle.moka_history.specs.Entries.{map_after}
use Rattle.moka_history.proofs.Lists.{prefix_through}
use Rattle.moka_shared.specs.Hashing.{hash_in, place_in}
use Rattle.moka_shared.specs.Looks.{Asks, Finds, HasCause, IsSo}
use Rattle.moka_shared.specs.Probing.{Ends, StopsAt}
use Rattle.moka_shared.specs.Tables.{IsTable}
use Rattle.moka_shared.proofs.Answered.{legal_of}
use Rattle.moka_shared.proofs.Found.{if_ok_to}
use Rattle.moka_shared.proofs.Since.{made_lasts}
use Rattle.moka_shared.proofs.Loading.{opened_by}
use Rattle.moka_shared.proofs.table.HashMap.try_get.Goals as goal

pub learn-requires : goal.learn-requires
learn-requires g c = ap (λ t. t.book) c.self.view_is ∙ sym c.requires.seat

pub seek-ended-requires : goal.seek-ended-requires
seek-ended-requires g c =
    let t = c.args.self.now in
    let well = subst (λ s. IsTable s c.self.inside.start.log c.self.inside.door c.self.inside.buckets.items c.self.inside.nexts.items c.self.inside.roots.items (g.L.Shelf.owner c.self.inside.shelf)) c.self.view_is c.self.invariant in
    let learned = c.learn.ensures in
    record {
      callable = c.requires.callable;
      book = learned.0 ∙ c.requires.seat;
      log = record {
        kept = learned.4.1.1;
        opened = opened_by t.segments t.size t.hasher c.self.inside.start.log c.learn.new.self.log well.begun learned.3;
        some = well.some;
      };
    }

pub answer-requires : goal.answer-requires
answer-requires g c = record {
  book = c.seek-ended.ensures.book ∙ (c.learn.ensures.0 ∙ c.requires.seat);
  log = c.seek-ended.ensures.goes_on.is_log;
  stops = (
    hiding g.L.Shelf.hidden g.L.Shelf.last c.args.seat.now.hidden,
    hiding g.L.Shelf.hidden g.L.Shelf.last c.seek-ended.new.hidden,
    c.seek-ended.ensures.stops,
  );
}

pub returns-clause-seat : goal.returns-clause-seat
returns-clause-seat g c = c.seek-ended.ensures.book ∙ (c.learn.ensures.0 ∙ c.requires.seat)

pub returns-clause-history : goal.returns-clause-history
returns-clause-history g c =
    prefix_through c.args.seat.now.front.log c.learn.new.self.log c.seek-ended.new.front.log c.learn.ensures.2 c.seek-ended.ensures.goes_on.begins

pub returns-clause-legal : goal.returns-clause-legal
returns-clause-legal g c =
    legal_of g.K.PartialEq.eq (hash_in g.S.BuildHasher g.S.Hasher.Hasher g.K.Hash.hash_input)
    (place_in g.S.BuildHasher g.S.Hasher.Hasher g.K.Hash.hash_input) c.seek-ended.new.front.log c.seek-ended.ensures.goes_on.is_log.kept

pub returns-clause-made : goal.returns-clause-made
returns-clause-made g c = λ made.
    made_lasts g.K.PartialEq.eq (hash_in g.S.BuildHasher g.S.Hasher.Hasher g.K.Hash.hash_input)
    (place_in g.S.BuildHasher g.S.Hasher.Hasher g.K.Hash.hash_input) c.seek-ended.new.front.log c.seek-ended.ensures.goes_on.is_log.kept
    c.args.seat.now.front.log
    (prefix_through c.args.seat.now.front.log c.learn.new.self.log c.seek-ended.new.front.log c.learn.ensures.2 c.seek-ended.ensures.goes_on.begins)
    c.args.seat.now.mine.numbers made

pub returns-clause-found : goal.returns-clause-found
returns-clause-found g c =
    let eq = g.K.PartialEq.eq in
    let hash = hash_in g.S.BuildHasher g.S.Hasher.Hasher g.K.Hash.hash_input in
    let place = place_in g.S.BuildHasher g.S.Hasher.Hasher g.K.Hash.hash_input in
    let t = c.args.self.now in
    let log = c.seek-ended.new.front.log in
    if_ok_to (λ got. (q : _) → c.args.hash ≡ hash t.hasher q → Ends eq place t q c.args.hash log c.seek-ended.result → Finds (map_after eq (entries_of log) q) got)
    (λ got. (q : _) → Asks g.F.FnMut eq (hash t.hasher) c.args.hash c.args.eq q → Finds (map_after eq (entries_of log) q) got) c.answer.result
    (λ got finds q asks. finds q asks.hashed (c.seek-ended.ensures.ends q asks.computes asks.hashed)) c.answer.ensures.found

pub returns-clause-fact : goal.returns-clause-fact
returns-clause-fact g c =
    let eq = g.K.PartialEq.eq in
    let hash = hash_in g.S.BuildHasher g.S.Hasher.Hasher g.K.Hash.hash_input in
    let place = place_in g.S.BuildHasher g.S.Hasher.Hasher g.K.Hash.hash_input in
    let t = c.args.self.now in
    let log = c.seek-ended.new.front.log in
    if_ok_to (λ got. (q : _) → c.args.hash ≡ hash t.hasher q → Ends eq place t q c.args.hash log c.seek-ended.result → IsSo (g.P.Fact.holds q) got)
    (λ got. (q : _) → Asks g.F.FnMut eq (hash t.hasher) c.args.hash c.args.eq q → IsSo (g.P.Fact.holds q) got) c.answer.result
    (λ got so q asks. so q asks.hashed (c.seek-ended.ensures.ends q asks.computes asks.hashed)) c.answer.ensures.fact

pub returns-clause-again : goal.returns-clause-again
returns-clause-again g c =
    let t = c.args.self.now in
    let log = c.seek-ended.new.front.log in
    let looked = hiding g.L.Shelf.hidden g.L.Shelf.last in
    let before = looked c.args.seat.now.hidden in
    let after = looked c.seek-ended.new.hidden in
    if_ok_to (λ got. (b n : _) → StopsAt t c.args.hash log b n c.seek-ended.result → HasCause t c.args.hash log b n got)
    (HasCause t c.args.hash log before after) c.answer.result (λ got cause. cause before after c.seek-ended.ensures.stops) c.answer.ensures.again

pub returns-clause-accesses : goal.returns-clause-accesses
returns-clause-accesses g c =
    let eq = g.K.PartialEq.eq in
    let hash = hash_in g.S.BuildHasher g.S.Hasher.Hasher g.K.Hash.hash_input in
    let place = place_in g.S.BuildHasher g.S.Hasher.Hasher g.K.Hash.hash_input in
    let t = c.args.self.now in
    let first = c.args.seat.now.front.log in
    let start = c.learn.new.self.log in
    let log = c.seek-ended.new.front.log in
    let pairs = (state_of log).pairs in
    let ended = c.seek-ended.result in
    if_ok_to (λ got. (q : _) (step : Step) → c.args.hash ≡ hash t.hasher q → Ends eq place t q c.args.hash log ended →
    EndsSo t.size (place t.hasher t.segments q) kind.Get c.args.hash ended step → FoundSo pairs got step)
    (λ got. (q : _) → Asks g.F.FnMut eq (hash t.hasher) c.args.hash c.args.eq q → HasCome eq hash place t q kind.Get c.args.hash first log (FoundSo pairs got)) c.answer.result
    (λ got so q asks. come_so eq hash place t q kind.Get c.args.hash first log (EndsSo t.size (place t.hasher t.segments q) kind.Get c.args.hash ended) (FoundSo pairs got)
    (λ step is. so q step asks.hashed (c.seek-ended.ensures.ends q asks.computes asks.hashed) is)
    (come_sooner eq hash place t q kind.Get c.args.hash first start log (EndsSo t.size (place t.hasher t.segments q) kind.Get c.args.hash ended) c.learn.ensures.2
    (c.seek-ended.ensures.course q kind.Get tt asks.computes asks.hashed))) c.answer.ensures.course
