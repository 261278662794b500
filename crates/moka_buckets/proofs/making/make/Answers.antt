use Rattle.std.proofs.Common.{IfOk, sym, subst}
use Rattle.std.specs.Option.{option_copied}
use Rattle.moka_words.specs.declared.accesses.Seen.TheVariants as seen
use Rattle.moka_words.specs.Effect.{Effect}
use Rattle.moka_buckets.specs.Arrays.{memory_of}
use Rattle.moka_pairs.specs.Keys.{hash_by, own_for}
use Rattle.moka_buckets.specs.Nodes.{IsNamed}
use Rattle.moka_buckets.specs.Making.{CanMake}
use Rattle.moka_buckets.proofs.making.make.Goals as goal

pub returns-in-LoadRoot-clause-effect : goal.returns-in-LoadRoot-clause-effect
returns-in-LoadRoot-clause-effect g c = λ hash keys hashed agrees.
    let own = own_for g.K.PartialEq.eq keys (option_copied c.args.key) in
    subst (λ a. Effect (hash_by hash keys) own a c.load_root.result (memory_of c.args.arrays.now) (memory_of c.args.arrays.now)) (sym c.in-LoadRoot.is)
    (c.load_root.ensures (hash_by hash keys) own)

pub returns-in-Exchange-clause-effect : goal.returns-in-Exchange-clause-effect
returns-in-Exchange-clause-effect g c = λ hash keys hashed agrees.
    let own = own_for g.K.PartialEq.eq keys (option_copied c.args.key) in
    subst (λ a. Effect (hash_by hash keys) own a (seen.Exchanged c.exchange.result) (memory_of c.args.arrays.now) (memory_of c.exchange.new.self)) (sym c.in-Exchange.is)
    (c.exchange.ensures.effect (hash_by hash keys) own)

pub returns-in-LoadNext-clause-effect : goal.returns-in-LoadNext-clause-effect
returns-in-LoadNext-clause-effect g c = λ hash keys hashed agrees.
    let own = own_for g.K.PartialEq.eq keys (option_copied c.args.key) in
    subst (λ a. Effect (hash_by hash keys) own a c.load_next.result (memory_of c.args.arrays.now) (memory_of c.args.arrays.now)) (sym c.in-LoadNext.is)
    (c.load_next.ensures (hash_by hash keys) own)

pub returns-in-Link-clause-effect : goal.returns-in-Link-clause-effect
returns-in-Link-clause-effect g c = λ hash keys hashed agrees.
    let own = own_for g.K.PartialEq.eq keys (option_copied c.args.key) in
    subst (λ a. IfOk c.link.result (λ saw. Effect (hash_by hash keys) own a saw (memory_of c.args.arrays.now) (memory_of c.link.new.self)))
    (sym c.in-Link.is) (c.link.ensures.effect (hash_by hash keys) own)

pub returns-in-Copy-clause-effect : goal.returns-in-Copy-clause-effect
returns-in-Copy-clause-effect g c = λ hash keys hashed agrees.
    let own = own_for g.K.PartialEq.eq keys (option_copied c.args.key) in
    subst (λ a. Effect (hash_by hash keys) own a seen.Copied (memory_of c.args.arrays.now) (memory_of c.copy.new.self)) (sym c.in-Copy.is)
    (c.copy.ensures.effect (hash_by hash keys) own)

pub returns-in-Swing-clause-effect : goal.returns-in-Swing-clause-effect
returns-in-Swing-clause-effect g c = λ hash keys hashed agrees.
    let own = own_for g.K.PartialEq.eq keys (option_copied c.args.key) in
    subst (λ a. Effect (hash_by hash keys) own a seen.Swung (memory_of c.args.arrays.now) (memory_of c.swing.new.self)) (sym c.in-Swing.is)
    (c.swing.ensures.effect (hash_by hash keys) own)

pub returns-in-LoadWord-clause-effect : goal.returns-in-LoadWord-clause-effect
returns-in-LoadWord-clause-effect g c = λ hash keys hashed agrees.
    let m = memory_of c.args.arrays.now in
    let named = subst (λ w. IsNamed c.args.nodes.now w) (sym c.word.ensures) (subst (λ a. CanMake m c.args.nodes.now a) c.in-LoadWord.is c.requires.can) in
    subst (λ a. Effect (hash_by hash keys) (own_for g.K.PartialEq.eq keys (option_copied c.args.key)) a c.see_word.result m m) (sym c.in-LoadWord.is)
    (c.see_word.ensures hash keys m c.in-LoadWord.array c.in-LoadWord.index hashed agrees named c.word.ensures)
