use Rattle.std.proofs.Common.{◌∙◌, ◌<◌, ap, length, subst, sym}
use Rattle.moka_history.specs.Logs.{state_of}
use Rattle.moka_shared.specs.Hashing.{hash_in, place_in}
use Rattle.moka_shared.proofs.Noted.{books_are, names_one}
use Rattle.moka_shared.proofs.node.Node.is_named.Goals as goal

pub learn-requires : goal.learn-requires
learn-requires g c =
    books_are c.self.inside.seen.book c.args.front.now.book (ap (λ n. n.names) c.self.view_is ∙ c.requires.names)
    ∙ sym (ap (λ s. s.book) c.again-both.ensures)

pub returns-clause-pair : goal.returns-clause-pair
returns-clause-pair g c = λ p named.
    let eq = g.K.PartialEq.eq in
    let hash = hash_in g.S.BuildHasher g.S.Hasher.Hasher g.K.Hash.hash_input in
    let place = place_in g.S.BuildHasher g.S.Hasher.Hasher g.K.Hash.hash_input in
    let learned = c.learn.ensures in
    let both = ap (λ s. s.log) c.again-both.ensures in
    let is = c.self.view_is in
    names_one eq hash place c.learn.new.self.log c.again-both.result.log c.self.inside.seen.log learned.4.1.1 learned.2
    (subst (λ l. 0 < length l) (sym both) c.requires.some) learned.3 c.self.invariant.some c.args.self.now.number p (c.self.inside.key, c.self.inside.value)
    (ap (λ l. (state_of l).pairs c.args.self.now.number) both ∙ named)
    (ap (λ n. (state_of c.self.inside.seen.log).pairs n.number) (sym is) ∙ c.self.invariant.named)
    ∙ ap (λ n. n.pair) is
