-- The query owns the rule of its top frame, or seeks that.
use Rattle.std.proofs.Common.{sym, ap, ◌∙◌, subst}
use Rattle.moka_hist.specs.Finite.{put_at}
use Rattle.moka_evaluator.specs.Evaluator.{without}
use Rattle.moka_stacks.specs.Places.{line_at}
use Rattle.moka_memo.specs.Passing.{IsNext}
use Rattle.moka_memo.proofs.Dropping.{seeking_is}
use Rattle.moka_memo.proofs.Letting.{owns_so, top_next, top_seeks}
use Rattle.moka_memo.proofs.memo.Memo.let_go_top.Goals as goal

pub pass-requires : goal.pass-requires
pass-requires c =
    let e = c.requires.0 in
    let s = c.requires.1 in
    let is = c.requires.2 in
    let own = owns_so c.args.self.now e c.args.query s is c.args.top c.requires.3 ∙ sym c.owns.ensures ∙ c.if-owns.true in (
      e,
      c.args.query,
      s.top,
      s.below,
      subst (λ f. IsNext c.args.self.now e c.args.query f.rule s.top s.below) c.requires.3
          (top_next c.args.self.now e c.args.query s is own),
    )

pub leave-requires : goal.leave-requires
leave-requires c =
    let e = c.requires.0 in
    let s = c.requires.1 in
    let is = c.requires.2 in
    let other = owns_so c.args.self.now e c.args.query s is c.args.top c.requires.3 ∙ sym c.owns.ensures ∙ c.if-owns.false in
    (is.claimed, is.claims, top_seeks c.args.self.now e c.args.query s is other)

pub returns-then-owns : goal.returns-then-owns
returns-then-owns c = λ e s is same.
    let own = owns_so c.args.self.now e c.args.query s is c.args.top same ∙ sym c.owns.ensures ∙ c.if-owns.true in
    c.pass.ensures e c.args.query s.top s.below (subst (λ f. IsNext c.args.self.now e c.args.query f.rule s.top s.below) same
    (top_next c.args.self.now e c.args.query s is own))

pub returns : goal.returns
returns c = λ e s is same.
    let other = owns_so c.args.self.now e c.args.query s is c.args.top same ∙ sym c.owns.ensures ∙ c.if-owns.false in
    seeking_is c.args.self.now e c.args.query s is other c.leave.new.self
    (c.leave.ensures is.claimed is.claims (top_seeks c.args.self.now e c.args.query s is other))
    c.leave-2.new.self c.leave-2.ensures.owner
    (λ x. c.leave-2.ensures.line x ∙ ap (λ f. put_at (line_at c.args.self.now.places) f.rule (without c.args.query (line_at c.args.self.now.places f.rule)) x) (sym same))
