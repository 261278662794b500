use Rattle.std.proofs.Common.{ap, sym, ◌∙◌, set}
use Rattle.std.proofs.lemmas.List.{set-set}
use Rattle.moka_cht.specs.declared.node.Node.TheVariants.{Unused, Removed}
use Rattle.moka_cht.specs.Nodes.{hash_in, pair_in}
use Rattle.moka_cht.proofs.store.retire.Goals as goal

pub returns : goal.returns
returns g c =
    let nodes = c.args.nodes.now.items in
    let n = c.args.number in
    let key = c.in-Pair.key in
    let was = sym c.release.ensures.node ∙ c.in-Pair.is in (
      key,
      ap pair_in was,
      ap (λ ns. set ns n (Removed c.in-Pair.hash key)) c.release.ensures.unused ∙ set-set nodes n Unused (Removed c.in-Pair.hash key)
          ∙ ap (λ h. set nodes n (Removed h key)) (sym (ap hash_in was)),
    )
