-- The frame is the nearest of those that are left.
use Rattle.std.proofs.Common.{ap, ◌∙◌, subst}
use Rattle.moka_stacks.specs.Queries.{nearest_first}
use Rattle.moka_stacks.proofs.Nearest.{added}
use Rattle.moka_memo.proofs.Letting.{StillPassing, below_next}
use Rattle.moka_memo.proofs.memo.Memo.pass_all.Goals as goal

pub pass-requires : goal.pass-requires
pass-requires c =
    let e = c.requires.0 in
    let q = c.requires.1 in
    let rest = nearest_first c.pop.new.self.items in
    let now = subst (StillPassing c.frames.self e q) (ap nearest_first c.in-Some.ensures.items ∙ added c.pop.new.self.items c.in-Some.frame)
    (c.frames.invariant e q c.requires.2 c.requires.3 c.requires.4) in
    (e, q, c.in-Some.frame, rest, below_next c.frames.self e q now.0 c.in-Some.frame rest now.1 now.2)

pub frames-preserved : goal.frames-preserved
frames-preserved c = λ e q r passing lie.
    let rest = nearest_first c.pop.new.self.items in
    let now = subst (StillPassing c.frames.self e q) (ap nearest_first c.in-Some.ensures.items ∙ added c.pop.new.self.items c.in-Some.frame)
    (c.frames.invariant e q r passing lie) in (
      c.in-Some.frame.rule,
      c.pass.ensures e q c.in-Some.frame rest (below_next c.frames.self e q now.0 c.in-Some.frame rest now.1 now.2),
      now.2.1,
    )
