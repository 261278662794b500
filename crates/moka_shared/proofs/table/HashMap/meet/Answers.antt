use Rattle.moka_history.proofs.Lists.{prefix_through}
use Rattle.moka_shared.specs.Hashing.{hash_in, place_in}
use Rattle.moka_shared.proofs.Answered.{legal_of}
use Rattle.moka_shared.proofs.Since.{made_lasts}
use Rattle.moka_shared.proofs.table.HashMap.meet.Goals as goal

pub returns-clause-legal : goal.returns-clause-legal
returns-clause-legal g c =
    let eq = g.K.PartialEq.eq in
    let hash = hash_in g.S.BuildHasher g.S.Hasher.Hasher g.K.Hash.hash_input in
    let place = place_in g.S.BuildHasher g.S.Hasher.Hasher g.K.Hash.hash_input in (
      legal_of eq hash place c.learn-2.new.self.log c.learn-2.ensures.4.1.1,
      legal_of eq hash place c.learn-3.new.self.log c.learn-3.ensures.4.1.1,
    )

pub returns-clause-a_made : goal.returns-clause-a_made
returns-clause-a_made g c = λ made.
    made_lasts g.K.PartialEq.eq (hash_in g.S.BuildHasher g.S.Hasher.Hasher g.K.Hash.hash_input)
    (place_in g.S.BuildHasher g.S.Hasher.Hasher g.K.Hash.hash_input) c.learn-2.new.self.log c.learn-2.ensures.4.1.1 c.args.a.now.front.log
    (prefix_through c.args.a.now.front.log c.learn.new.self.log c.learn-2.new.self.log c.learn.ensures.2 c.learn-2.ensures.2) c.args.a.now.mine.numbers made

pub returns-clause-b_made : goal.returns-clause-b_made
returns-clause-b_made g c = λ made.
    made_lasts g.K.PartialEq.eq (hash_in g.S.BuildHasher g.S.Hasher.Hasher g.K.Hash.hash_input)
    (place_in g.S.BuildHasher g.S.Hasher.Hasher g.K.Hash.hash_input) c.learn-3.new.self.log c.learn-3.ensures.4.1.1 c.args.b.now.front.log
    c.learn-3.ensures.2 c.args.b.now.mine.numbers made
