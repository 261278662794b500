use Rattle.std.proofs.Common.{ap, ◌∙◌, ◌++◌}
use Rattle.std.proofs.lemmas.List.{take_all}
use Rattle.std.specs.List.{flat_map}
use Rattle.std.specs.Map.{keys_of}
use Rattle.moka_buckets.specs.Listed.{keys_at, listed_in}
use Rattle.moka_buckets.proofs.OwnKeys.{keys_listed}
use Rattle.moka_buckets.proofs.part_keys.copy_part.Goals as goal

pub returns : goal.returns
returns g c =
    let nodes = c.args.part.now.nodes.items in
    let words = c.root_words-word-items.result.now in
    c.loop-word.invariant ∙
    ap (λ ks. c.args.keys.now.items ++ ks) (ap (λ ws. flat_map (keys_at nodes) ws) (take_all c.loop-word.word-index words c.loop-word-test.false) ∙
    (keys_listed nodes words ∙ ap (λ ws. keys_of (listed_in nodes ws)) c.root_words-word-items.ensures))
