use Rattle.std.proofs.Common.{◌∙◌, ◌<◌, ap, inr, refl, subst}
use Rattle.moka_shelf.specs.Looks.{hiding}
use Rattle.moka_words.proofs.Laying.{stored_is_key}
use Rattle.moka_shared.specs.Changes.{entry_taken}
use Rattle.moka_shared.specs.Hashing.{hash_in, place_in, segment_of}
use Rattle.moka_shared.proofs.Divided.{divided}
use Rattle.moka_shared.proofs.Probed.{pair}
use Rattle.moka_shared.proofs.Putting.{can_take}
use Rattle.moka_shared.proofs.Since.{puts_drawn}
use Rattle.moka_words.specs.Arrays.{bucket_at}
use Rattle.moka_words.specs.Words.{node_of}
use Rattle.moka_shared.proofs.Turned.{puts_by_since}
use Rattle.moka_shared.proofs.table.HashMap.take.Goals as goal

pub change_on-requires-clause-can : goal.change_on-requires-clause-can
change_on-requires-clause-can g c =
    let eq = g.K.PartialEq.eq in
    let hash = hash_in g.S.BuildHasher g.S.Hasher.Hasher g.K.Hash.hash_input in
    let place = place_in g.S.BuildHasher g.S.Hasher.Hasher g.K.Hash.hash_input in
    let t = c.args.self.now in
    let equals = divided g.S.BuildHasher g.S.Hasher.Hasher g.K.Hash.hash_input eq g.met.K.Eq.laws g.met.K.Hash.respects_eq in
    let old = c.args.seat.now in
    let gap = c.args.gap.now in
    let key = c.args.key.now in
    let mid = c.draw_for.new.front.log in
    let goes = c.draw_for.ensures.goes_on in
    let ticket = c.in-Ok.drawn.ticket in
    let own_below : place t.hasher t.segments key < t.segments = subst (λ n. segment_of t.segments n < t.segments) c.requires.hash c.requires.below in
    let there = pair eq hash place equals t key own_below gap.hash c.requires.hash old.front.log c.requires.log (bucket_at t.size gap.hash gap.passed) c.args.number
    (ap node_of c.requires.ends.there ∙ stored_is_key gap.word c.args.number c.requires.stored) in (
      key,
      entry_taken ticket there.0,
      old.front.log,
      can_take eq hash place equals t key own_below gap.hash c.requires.hash old.front.log mid c.requires.log goes.is_log goes.begins gap.passed gap.word
          c.requires.ends c.args.number c.requires.stored there.0 there.1 ticket,
    )

pub returns-in-Ok-clause-puts : goal.returns-in-Ok-clause-puts
returns-in-Ok-clause-puts g c = λ p named.
    let eq = g.K.PartialEq.eq in
    let hash = hash_in g.S.BuildHasher g.S.Hasher.Hasher g.K.Hash.hash_input in
    let place = place_in g.S.BuildHasher g.S.Hasher.Hasher g.K.Hash.hash_input in
    let t = c.args.self.now in
    let equals = divided g.S.BuildHasher g.S.Hasher.Hasher g.K.Hash.hash_input eq g.met.K.Eq.laws g.met.K.Hash.respects_eq in
    let old = c.args.seat.now in
    let gap = c.args.gap.now in
    let key = c.args.key.now in
    let mid = c.draw_for.new.front.log in
    let goes = c.draw_for.ensures.goes_on in
    let drawn = c.in-Ok.ensures.drawn.1 in
    let ticket = c.in-Ok.drawn.ticket in
    let own_below : place t.hasher t.segments key < t.segments = subst (λ n. segment_of t.segments n < t.segments) c.requires.hash c.requires.below in
    puts_drawn eq place (hiding g.L.Shelf.hidden g.L.Shelf.last) t gap.hash old record { front = c.draw_for.new.front; hidden = old.hidden; drawn = c.draw_for.new.own; mine = old.mine }
    c.change_on.new.seat goes.begins refl (λ n. entry_taken n p) gap.passed ticket drawn.late
    (ap (λ m. m.numbers) c.change_on.ensures.drawn ∙ c.in-Ok.ensures.own) (ap (hiding g.L.Shelf.hidden g.L.Shelf.last) c.change_on.ensures.hidden) c.change_on.result
    (c.change_on.ensures.puts key (entry_taken ticket p) old.front.log
    (can_take eq hash place equals t key own_below gap.hash c.requires.hash old.front.log mid c.requires.log goes.is_log goes.begins gap.passed gap.word
    c.requires.ends c.args.number c.requires.stored p named ticket))

pub change_on-requires-clause-chosen : goal.change_on-requires-clause-chosen
change_on-requires-clause-chosen g c = inr (c.args.number, c.requires.stored, refl)

pub returns-in-Ok-clause-exchange : goal.returns-in-Ok-clause-exchange
returns-in-Ok-clause-exchange g c =
    puts_by_since c.args.self.now c.args.gap.now.hash c.args.gap.now.passed c.args.gap.now.word c.args.seat.now.front.log c.draw_for.new.front.log c.change_on.new.seat.front.log
    c.draw_for.ensures.goes_on.begins c.change_on.result c.change_on.ensures.exchange
