use Rattle.std.proofs.Common.{inr, ap, ◌∙◌}
use Rattle.moka_parts.specs.Hashing.{part_in}
use Rattle.moka_parts.proofs.Parting.{just_made, word_made}
use Rattle.moka_parts.proofs.part.Part.new.Goals as goal

pub tracked-requires : goal.tracked-requires
tracked-requires g c = inr (ap (λ n. n.right) c.requires.pen.1, ap (λ n. n.value) c.requires.pen.1)

pub invariant_of-result : goal.invariant_of-result
invariant_of-result g c =
    let start = c.requires.start in
    just_made g.K.PartialEq.eq (part_in g.S.BuildHasher g.S.Hasher.Hasher g.K.Hash.hash_input) g.F.Fact.holds g.J.Naming.book c.args.number c.tracked.result c.again.result c.with_hasher.result
    c.requires.small (word_made c.tracked.result c.args.pen.nib c.args.pen.book g.J.Naming.book c.args.number c.tracked.ensures.0 c.requires.pen.0 c.requires.pen.1) start.0 (c.again.ensures ∙ start.1)
    c.with_hasher.ensures.empty
