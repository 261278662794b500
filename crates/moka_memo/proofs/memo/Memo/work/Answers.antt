-- The rule of a frame is one of the rules.
use Rattle.std.proofs.Common.{sym, ◌∙◌}
use Rattle.moka_evaluator.proofs.Basics.{none_some}
use Rattle.moka_memo.proofs.Turning.{its_rule}
use Rattle.moka_memo.proofs.memo.Memo.work.Goals as goal

pub unreachable-requires : goal.unreachable-requires
unreachable-requires c =
    let stands = c.requires.stands in
    let s = stands.1.1 in
    none_some (sym c.in-None.is ∙ c.rule.ensures ∙
    its_rule c.args.self.now stands.0 stands.1.0 c.args.query s.0 s.1.0 c.args.top s.1.1)
