use Rattle.std.proofs.Common.{◌∙◌, ◌<◌, Some, ap, refl, subst, sym}
use Rattle.moka_shelf.specs.Looks.{hiding}
use Rattle.moka_words.specs.Words.{stored_in}
use Rattle.moka_pairs.specs.Pairs.{pair_at}
use Rattle.moka_history.specs.Logs.{state_of}
use Rattle.moka_shared.specs.Changes.{entry_put}
use Rattle.moka_shared.specs.Hashing.{hash_in, place_in, segment_of}
use Rattle.moka_shared.proofs.Divided.{divided}
use Rattle.moka_shared.proofs.Putting.{can_put}
use Rattle.moka_shared.proofs.Since.{puts_drawn}
use Rattle.moka_shared.proofs.Turned.{puts_by_since}
use Rattle.moka_shared.proofs.table.HashMap.put.Goals as goal

pub put_on-requires-clause-named : goal.put_on-requires-clause-named
put_on-requires-clause-named g c =
    let key_is = g.met.K.Exact.exact c.args.key.now c.in-Ok.own_key c.in-Ok.ensures.cases in
    let value_is = g.met.V.Exact.exact c.args.value.now c.in-Ok-clone.own_value c.in-Ok-clone.ensures.cases in
    c.in-Ok-draw_for.ensures.drawn.1.named
    ∙ (ap (λ k. Some (k, c.args.value.now)) (sym key_is) ∙ ap (λ v. Some (c.in-Ok.own_key, v)) (sym value_is))

pub put_on-requires-clause-can : goal.put_on-requires-clause-can
put_on-requires-clause-can g c =
    let eq = g.K.PartialEq.eq in
    let hash = hash_in g.S.BuildHasher g.S.Hasher.Hasher g.K.Hash.hash_input in
    let place = place_in g.S.BuildHasher g.S.Hasher.Hasher g.K.Hash.hash_input in
    let t = c.args.self.now in
    let equals = divided g.S.BuildHasher g.S.Hasher.Hasher g.K.Hash.hash_input eq g.met.K.Eq.laws g.met.K.Hash.respects_eq in
    let old = c.args.seat.now in
    let gap = c.args.gap.now in
    let key = c.args.key.now in
    let value = c.args.value.now in
    let mid = c.draw_for.new.front.log in
    let goes = c.draw_for.ensures.goes_on in
    let drawn = c.in-Ok-draw_for.ensures.drawn.1 in
    let ticket = c.in-Ok-draw_for.drawn.ticket in
    let own_below : place t.hasher t.segments key < t.segments = subst (λ n. segment_of t.segments n < t.segments) c.requires.hash c.requires.below in
    let can = can_put eq hash place equals t key own_below gap.hash c.requires.hash old.front.log mid c.requires.log goes.is_log goes.begins gap.passed gap.word
    c.requires.ends ticket value drawn.named in
    let former = pair_at (state_of old.front.log).pairs (stored_in gap.word) in
    (key, entry_put ticket key value former, old.front.log, can)

pub returns-in-Ok-draw_for-clause-puts : goal.returns-in-Ok-draw_for-clause-puts
returns-in-Ok-draw_for-clause-puts g c =
    let eq = g.K.PartialEq.eq in
    let hash = hash_in g.S.BuildHasher g.S.Hasher.Hasher g.K.Hash.hash_input in
    let place = place_in g.S.BuildHasher g.S.Hasher.Hasher g.K.Hash.hash_input in
    let t = c.args.self.now in
    let equals = divided g.S.BuildHasher g.S.Hasher.Hasher g.K.Hash.hash_input eq g.met.K.Eq.laws g.met.K.Hash.respects_eq in
    let old = c.args.seat.now in
    let gap = c.args.gap.now in
    let key = c.args.key.now in
    let value = c.args.value.now in
    let mid = c.draw_for.new.front.log in
    let goes = c.draw_for.ensures.goes_on in
    let drawn = c.in-Ok-draw_for.ensures.drawn.1 in
    let ticket = c.in-Ok-draw_for.drawn.ticket in
    let own_below : place t.hasher t.segments key < t.segments = subst (λ n. segment_of t.segments n < t.segments) c.requires.hash c.requires.below in
    let can = can_put eq hash place equals t key own_below gap.hash c.requires.hash old.front.log mid c.requires.log goes.is_log goes.begins gap.passed gap.word
    c.requires.ends ticket value drawn.named in
    let former = pair_at (state_of old.front.log).pairs (stored_in gap.word) in
    puts_drawn eq place (hiding g.L.Shelf.hidden g.L.Shelf.last) t gap.hash old record { front = c.draw_for.new.front; hidden = old.hidden; drawn = c.draw_for.new.own; mine = old.mine }
    c.put_on.new.seat goes.begins refl (λ n. entry_put n key value former) gap.passed ticket drawn.late
    (ap (λ m. m.numbers) c.put_on.ensures.drawn ∙ c.in-Ok-draw_for.ensures.own) (ap (hiding g.L.Shelf.hidden g.L.Shelf.last) c.put_on.ensures.hidden) c.put_on.result
    (c.put_on.ensures.puts key (entry_put ticket key value former) old.front.log can)

pub returns-in-Ok-draw_for-clause-exchange : goal.returns-in-Ok-draw_for-clause-exchange
returns-in-Ok-draw_for-clause-exchange g c =
    puts_by_since c.args.self.now c.args.gap.now.hash c.args.gap.now.passed c.args.gap.now.word c.args.seat.now.front.log c.draw_for.new.front.log c.put_on.new.seat.front.log
    c.draw_for.ensures.goes_on.begins c.put_on.result c.put_on.ensures.exchange
