use Rattle.std.proofs.Common.{arith}
use Rattle.boxcar.proofs.Spans.{span_top, top_above}
use Rattle.moka_shelf.proofs.Powers.{top_below_17}
use Rattle.moka_shelf.proofs.rows.in_first.Goals as goal

pub overflow_sub-row : goal.overflow_sub-row
overflow_sub-row c =
    top_above c.args.place c.ilog2.result c.ilog2.ensures.power_le c.ilog2.ensures.next_power_gt
    c.requires.least

pub first_length-requires : goal.first_length-requires
first_length-requires c =
    let below = top_below_17 c.args.place c.ilog2.result c.ilog2.ensures.power_le c.requires.most in
    record { row = omega arith }

pub overflow_sub-result : goal.overflow_sub-result
overflow_sub-result c =
    let low = c.ilog2.ensures.power_le in
    let above = top_above c.args.place c.ilog2.result low c.ilog2.ensures.next_power_gt
    c.requires.least in
    let is = span_top c.ilog2.result above in
    let length = c.first_length.ensures.length in
    omega arith

pub returns : goal.returns
returns c =
    let low = c.ilog2.ensures.power_le in
    let above = top_above c.args.place c.ilog2.result low c.ilog2.ensures.next_power_gt
    c.requires.least in
    let below = top_below_17 c.args.place c.ilog2.result low c.requires.most in
    let is = span_top c.ilog2.result above in
    let length = c.first_length.ensures.length in
    (omega arith, omega arith)
