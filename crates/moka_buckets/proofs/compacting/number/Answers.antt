use Rattle.std.proofs.Common.{◌++◌, ◌∷◌, [], ◌∙◌, ap, sym}
use Rattle.moka_buckets.proofs.Numbered.{one_numbered}
use Rattle.moka_buckets.proofs.compacting.number.Goals as goal

pub loop-place-preserved : goal.loop-place-preserved
loop-place-preserved g c =
    c.in_ok-push.ensures.items
    ∙ (ap (λ ps. ps ++ (c.loop-place.place, c.index-nodes-place.result.hash) ∷ []) c.loop-place.invariant
    ∙ sym (one_numbered c.args.nodes.now c.loop-place.place c.index-nodes-place.result c.loop-place-test.true c.index-nodes-place.is))
