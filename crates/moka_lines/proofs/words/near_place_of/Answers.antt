-- The lowest bit that is set tells the first mark.
use Rattle.std.proofs.Common.{ap, ◌∙◌, subst, ◌<◌, eqb, arith}
use Rattle.moka_lines.proofs.Marks.{lowest_is_first}
use Rattle.moka_lines.proofs.words.near_place_of.Goals as goal
use lib.Count.{count_trailing_zeros}

pub returns-then-marks-ne0 : goal.returns-then-marks-ne0
returns-then-marks-ne0 c =
    let is = c.marks_of-marks.ensures in
    let some : 0 < c.marks_of-marks.result = omega (arith, c.if-marks-ne0.true) in
    ap (count_trailing_zeros 64) is ∙ lowest_is_first (λ b. eqb b c.args.mark) c.args.bytes.now 32 (omega (arith, c.if-bytes-ge-WIDE.true)) (omega arith) (subst (λ m. 0 < m) is some)
