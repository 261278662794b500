use Rattle.std.proofs.Common.{ap, ◌∙◌}
use Rattle.std.proofs.lemmas.List.{take_all}
use Rattle.std.specs.List.{flat_map}
use Rattle.std.specs.Map.{keys_of}
use Rattle.moka_buckets.specs.Parts.{listed_part}
use Rattle.moka_buckets.proofs.OwnKeys.{keys_flat}
use Rattle.moka_buckets.proofs.part_keys.copy_all.Goals as goal

pub returns : goal.returns
returns g c =
    let parts = c.args.parts.now in
    c.loop-part.invariant ∙
    (ap (λ ps. flat_map (λ p. keys_of (listed_part p)) ps) (take_all c.loop-part.part-index parts c.loop-part-test.false) ∙ keys_flat parts)
