use Rattle.std.proofs.Common.{refl, ◌∙◌}
use Rattle.moka_parts.specs.Hashing.{part_in}
use Rattle.moka_parts.proofs.Alike.{part_alike}
use Rattle.moka_parts.proofs.Parting.{find_says}
use Rattle.moka_parts.proofs.part.Part.find.Goals as goal

pub returns-clause-found : goal.returns-clause-found
returns-clause-found g c =
    let eq = g.K.PartialEq.eq in
    let part = part_in g.S.BuildHasher g.S.Hasher.Hasher g.K.Hash.hash_input in
    let alike = part_alike g.S.BuildHasher g.S.Hasher.Hasher g.K.Hash.hash_input eq g.met.K.Hash.respects_eq in
    let inside = c.self.inside in
    let seen = c.if-not-sees.ensures.counts in
    c.find.ensures ∙ find_says eq part g.F.Fact.holds alike g.J.Naming.book inside.number inside.count inside.word inside.front inside.map c.self.invariant
    c.args.number inside.count seen.0 refl c.args.key.now c.args.start.now c.sees.new.self c.requires.part c.sees.ensures.start c.sees.ensures.front seen.1.0 seen.1.1
