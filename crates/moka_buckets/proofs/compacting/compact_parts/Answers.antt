use Rattle.std.proofs.Common.{length, refl}
use Rattle.std.proofs.lemmas.Option.{slice_get_read}
use Rattle.moka_buckets.proofs.Renewed.{all_more}
use Rattle.moka_buckets.proofs.compacting.compact_parts.Goals as goal

pub loop-part-preserved : goal.loop-part-preserved
loop-part-preserved g c =
    let there = slice_get_read c.args.parts.now (length c.args.parts.now) c.loop-part.part-index c.part-item.result refl c.loop-part-test.true c.part-item.is in
    all_more c.args.parts.now c.loop-part.part-index c.part-item.result c.in_ok-renewed.renewed c.loop-part.anew.items c.push.new.self.items there
    c.loop-part.invariant c.in_ok-renewed.ensures c.in_ok-push.ensures.items
