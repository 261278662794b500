use Rattle.std.proofs.Common.{refl, sym, ap, ◌∙◌}
use Rattle.std.specs.Option.{option_copied}
use Rattle.moka_buckets.proofs.Seeing.{seen_hash, seen_for}
use Rattle.moka_buckets.proofs.nodes.see_node.Goals as goal

pub returns-in-Some : goal.returns-in-Some
returns-in-Some g c = λ hash keys m array index hashed agrees named is.
    let there = sym c.node_at.ensures ∙ ap option_copied c.in-Some.is in (
      is,
      seen_hash c.args.nodes.now keys agrees hash hashed _ c.args.number c.in-Some.node.now c.requires there,
      c.is_key.ensures ∙ seen_for c.args.nodes.now keys agrees g.K.PartialEq.eq (option_copied c.args.key) _ c.args.number c.in-Some.node.now c.requires there,
      (λ a. refl, record { arrays = refl; rooted = refl; fresh = refl }),
    )
