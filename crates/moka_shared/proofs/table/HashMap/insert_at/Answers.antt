use Rattle.std.proofs.Common.{◌≡◌, ◌∙◌, None, Some, subst, sym}
use Rattle.moka_shelf.specs.Looks.{hiding}
use Rattle.std.specs.Option.{option_map}
use Rattle.moka_words.specs.Words.{stored_in}
use Rattle.moka_pairs.specs.Pairs.{pair_at}
use Rattle.moka_history.specs.Entries.{map_after}
use Rattle.moka_history.specs.Logs.{entries_of, state_of}
use Rattle.moka_history.proofs.Lists.{prefix_self}
use Rattle.moka_words.proofs.Laying.{stored_is_key}
use Rattle.moka_shared.specs.Changes.{Makes, entry_put}
use Rattle.moka_shared.specs.Hashing.{place_in}
use Rattle.moka_shared.proofs.Since.{puts_as, stands_none}
use Rattle.moka_shared.specs.Changes.{Puts}
use Rattle.moka_shared.proofs.Turned.{stores_by}
use Rattle.moka_shared.proofs.table.HashMap.insert_at.Goals as goal

pub present-requires-clause-node : goal.present-requires-clause-node
present-requires-clause-node g c =
    let number = c.in-Some.number in
    c.requires.node number (stored_is_key c.args.gap.now.word number (sym c.stored_in.ensures ∙ c.in-Some.is))

pub returns-in-Some-clause-goes_on : goal.returns-in-Some-clause-goes_on
returns-in-Some-clause-goes_on g c = record { begins = prefix_self c.args.seat.now.front.log; is_log = c.requires.log }

pub returns-in-Some-clause-puts : goal.returns-in-Some-clause-puts
returns-in-Some-clause-puts g c = c.present.ensures.puts c.args.value.now

pub returns-in-None-clause-puts : goal.returns-in-None-clause-puts
returns-in-None-clause-puts g c =
    let eq = g.K.PartialEq.eq in
    let place = place_in g.S.BuildHasher g.S.Hasher.Hasher g.K.Hash.hash_input in
    let t = c.args.self.now in
    let old = c.args.seat.now in
    let new = c.put.new.seat in
    let key = c.args.key.now in
    let value = c.args.value.now in
    let h = c.args.gap.now.hash in
    let made = subst (λ o. Puts eq place (hiding g.L.Shelf.hidden g.L.Shelf.last) t h old new (Makes old new (λ n. entry_put n key value (pair_at (state_of old.front.log).pairs o))) (λ v. ⊥) c.put.result)
    (sym c.stored_in.ensures ∙ c.in-None.is) c.put.ensures.puts in
    puts_as eq place (hiding g.L.Shelf.hidden g.L.Shelf.last) t h old new (Makes old new (λ n. entry_put n key value None)) (Makes old new (λ n. entry_put n key value None)) (λ v. ⊥)
    (λ found. Some found ≡ option_map (λ p. p.1) (map_after eq (entries_of new.front.log) key)) (λ m. m) (λ v n. absurd n) c.put.result made

pub returns-in-None-clause-fact : goal.returns-in-None-clause-fact
returns-in-None-clause-fact g c =
    let eq = g.K.PartialEq.eq in
    let place = place_in g.S.BuildHasher g.S.Hasher.Hasher g.K.Hash.hash_input in
    let t = c.args.self.now in
    let old = c.args.seat.now in
    let new = c.put.new.seat in
    stands_none eq place (hiding g.L.Shelf.hidden g.L.Shelf.last) t c.args.gap.now.hash old new
    (Makes old new (λ n. entry_put n c.args.key.now c.args.value.now (pair_at (state_of old.front.log).pairs (stored_in c.args.gap.now.word))))
    (g.P.Fact.holds c.args.key.now) c.put.result c.put.ensures.puts

pub returns-in-None-clause-exchange : goal.returns-in-None-clause-exchange
returns-in-None-clause-exchange g c =
    let eq = g.K.PartialEq.eq in
    let place = place_in g.S.BuildHasher g.S.Hasher.Hasher g.K.Hash.hash_input in
    let t = c.args.self.now in
    let old = c.args.seat.now in
    let new = c.put.new.seat in
    let gap = c.args.gap.now in
    stores_by t gap.hash gap.passed gap.word eq place (hiding g.L.Shelf.hidden g.L.Shelf.last) old new
    (Makes old new (λ n. entry_put n c.args.key.now c.args.value.now (pair_at (state_of old.front.log).pairs (stored_in gap.word)))) old.front.log new.front.log
    (sym c.stored_in.ensures ∙ c.in-None.is) c.put.result c.put.ensures.puts c.put.ensures.exchange
