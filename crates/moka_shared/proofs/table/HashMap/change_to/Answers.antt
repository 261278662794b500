use Rattle.std.proofs.Common.{subst}
use Rattle.moka_shelf.specs.Looks.{hiding}
use Rattle.std.proofs.Common.{◌∙◌, ap, sym}
use Rattle.moka_pairs.specs.Pairs.{pair_at}
use Rattle.moka_history.specs.Logs.{state_of}
use Rattle.moka_shared.specs.Changes.{Makes, Puts, entry_for, entry_put}
use Rattle.moka_shared.specs.Hashing.{place_in}
use Rattle.moka_shared.specs.Removals.{value_of}
use Rattle.moka_shared.proofs.table.HashMap.change_to.Goals as goal

pub returns-in-Some-clause-puts : goal.returns-in-Some-clause-puts
returns-in-Some-clause-puts g c = λ pair named.
    let eq = g.K.PartialEq.eq in
    let place = place_in g.S.BuildHasher g.S.Hasher.Hasher g.K.Hash.hash_input in
    let t = c.args.self.now in
    let old = c.args.seat.now in
    let new = c.put.new.seat in
    let key = c.args.key.now in
    let h = c.args.gap.now.hash in
    subst (λ o. Puts eq place (hiding g.L.Shelf.hidden g.L.Shelf.last) t h old new (Makes old new (λ n. entry_for n key (value_of o) pair)) (λ v. ⊥) c.put.result) (sym c.in-Some.is)
    (subst (λ o. Puts eq place (hiding g.L.Shelf.hidden g.L.Shelf.last) t h old new (Makes old new (λ n. entry_put n key c.in-Some.value.now o)) (λ v. ⊥) c.put.result)
    (ap (pair_at (state_of old.front.log).pairs) c.requires.stored ∙ named) c.put.ensures.puts)

pub returns-in-None-clause-puts : goal.returns-in-None-clause-puts
returns-in-None-clause-puts g c = λ pair named.
    let eq = g.K.PartialEq.eq in
    let place = place_in g.S.BuildHasher g.S.Hasher.Hasher g.K.Hash.hash_input in
    let t = c.args.self.now in
    let old = c.args.seat.now in
    let new = c.take.new.seat in
    let key = c.args.key.now in
    subst (λ o. Puts eq place (hiding g.L.Shelf.hidden g.L.Shelf.last) t c.args.gap.now.hash old new (Makes old new (λ n. entry_for n key (value_of o) pair)) (λ v. ⊥) c.take.result) (sym c.in-None.is)
    (c.take.ensures.puts pair named)
