use Rattle.std.proofs.Common.{◌∙◌, ◌+◌, ◌≤◌, ap, arith, sym}
use Rattle.moka_shared.specs.Hashing.{hash_in, place_in}
use Rattle.moka_history.proofs.Lists.{one_item}
use Rattle.moka_shared.proofs.Drawing.{above_other, door_seen, first_drawn, last_rises, last_seen, segments_now, sum_small}
use Rattle.moka_shared.proofs.table.HashMap.announce_for.Goals as goal

pub announce-requires-clause-next : goal.announce-requires-clause-next
announce-requires-clause-next g c =
    let eq = g.K.PartialEq.eq in
    let hash = hash_in g.S.BuildHasher g.S.Hasher.Hasher g.K.Hash.hash_input in
    let place = place_in g.S.BuildHasher g.S.Hasher.Hasher g.K.Hash.hash_input in
    let t = c.args.self.now in
    let now = segments_now eq hash place t c.drawn-drawn.new.front.log c.drawn-drawn.ensures.goes_on.is_log in
    ap (λ n. n + (c.drawn-drawn.result + 1)) (ap (λ s. s.segments) c.self.view_is ∙ sym now)

pub overflow_add-result : goal.overflow_add-result
overflow_add-result g c =
    let eq = g.K.PartialEq.eq in
    let hash = hash_in g.S.BuildHasher g.S.Hasher.Hasher g.K.Hash.hash_input in
    let place = place_in g.S.BuildHasher g.S.Hasher.Hasher g.K.Hash.hash_input in
    let t = c.args.self.now in
    let small = sum_small eq hash place t c.drawn-drawn.new.front.log c.announce.new.front.log c.drawn-drawn.ensures.goes_on.is_log c.in-Err.found c.in-Err.ensures.sees in
    let is = ap (λ s. s.segments) c.self.view_is in
    omega (arith, small, is)

pub returns-in-Ok-clause-late : goal.returns-in-Ok-clause-late
returns-in-Ok-clause-late g c =
    let eq = g.K.PartialEq.eq in
    let hash = hash_in g.S.BuildHasher g.S.Hasher.Hasher g.K.Hash.hash_input in
    let place = place_in g.S.BuildHasher g.S.Hasher.Hasher g.K.Hash.hash_input in
    let t = c.args.self.now in
    let mid = c.drawn-drawn.new.front.log in
    let goes = c.drawn-drawn.ensures.goes_on in
    let rises = last_rises eq hash place t c.args.front.now.log mid c.requires.log goes.is_log goes.begins in
    let is = ap (λ s. s.segments) c.self.view_is in
    let last = c.drawn-drawn.ensures.last in
    omega (arith, rises, is, last)

pub returns-in-Err-clause-missed : goal.returns-in-Err-clause-missed
returns-in-Err-clause-missed g c =
    let eq = g.K.PartialEq.eq in
    let hash = hash_in g.S.BuildHasher g.S.Hasher.Hasher g.K.Hash.hash_input in
    let place = place_in g.S.BuildHasher g.S.Hasher.Hasher g.K.Hash.hash_input in
    let t = c.args.self.now in
    let mid = c.drawn-drawn.new.front.log in
    let new = c.announce.new.front.log in
    let goes = c.drawn-drawn.ensures.goes_on in
    let sees = c.in-Err.ensures.sees in
    let seen = door_seen eq hash place t mid new goes.is_log c.in-Err.found sees in
    let rises = last_rises eq hash place t c.args.front.now.log mid c.requires.log goes.is_log goes.begins in
    let more = last_rises eq hash place t mid new goes.is_log seen.is_log seen.begins in
    let is = ap (λ s. s.segments) c.self.view_is in
    let last = c.drawn-drawn.ensures.last in
    let now = last_seen eq hash place t mid new goes.is_log c.in-Err.found sees in
    let low : c.drawn-drawn.result ≤ c.in-Err.found = omega (arith, more, last, now) in
    let less = above_other c.drawn-drawn.result c.in-Err.found low c.in-Err.ensures.other in
    (omega (arith, rises, is, last, less), omega (arith, now, is))

pub announce-requires-clause-grown : goal.announce-requires-clause-grown
announce-requires-clause-grown g c = λ n is.
    let eq = g.K.PartialEq.eq in
    let hash = hash_in g.S.BuildHasher g.S.Hasher.Hasher g.K.Hash.hash_input in
    let place = place_in g.S.BuildHasher g.S.Hasher.Hasher g.K.Hash.hash_input in
    let t = c.args.self.now in
    let log = c.drawn-drawn.ensures.goes_on.is_log in
    let below = first_drawn eq hash place t c.drawn-drawn.new.front.log log c.args.segment c.requires.segment in
    let same = one_item is in
    omega (arith, below, same)
