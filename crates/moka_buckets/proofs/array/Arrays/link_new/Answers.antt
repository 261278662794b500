use Rattle.std.proofs.Common.{◌∙◌}
use Rattle.moka_buckets.proofs.Placed.{placed_linked}
use Rattle.moka_buckets.proofs.array.Arrays.link_new.Goals as goal

pub returns-clause-placed : goal.returns-clause-placed
returns-clause-placed c =
    let s = c.args.self.now in
    placed_linked s.all.items c.reserve.new.self.items c.push_reserved.new.self.items s.segment.arrays.items c.reserve-2.new.self.items
    c.push_reserved-2.new.self.items c.len-number.result _ c.push_reserved.ensures.items c.reserve.ensures.items c.push_reserved-2.ensures.items
    c.reserve-2.ensures.items (c.len-number.ensures ∙ (c.reserve.ensures.len ∙ s.all.ok.0)) c.requires.placed c.requires.last
