-- The next number is no query's.
use Rattle.std.proofs.Common.{◌≡◌, ◌+◌, Some, ap, ◌∙◌}
use Rattle.moka_evaluator.specs.Plain.{rule_at}
use Rattle.moka_memo.proofs.Asking.{next_none, next_seeks, this_rule}
use Rattle.moka_memo.proofs.Becoming.{add_is}
use Rattle.moka_memo.proofs.memo.Memo.add.Goals as goal

pub seek-requires : goal.seek-requires
seek-requires c =
    let e = c.requires.0 in
    let is = c.requires.1.0 in
    let next : c.in-Some.query ≡ e.last + 1 = c.in-Some.ensures.1 ∙ ap (λ n. n + 1) is.last in
    (is.claimed, is.claims, ap is.claimed.seeks next ∙ next_seeks c.args.self.now e is c.args.rule)

pub add-requires : goal.add-requires
add-requires c =
    let e = c.requires.0 in
    let is = c.requires.1.0 in
    let next : c.in-Some.query ≡ e.last + 1 = c.in-Some.ensures.1 ∙ ap (λ n. n + 1) is.last in
    is.stack c.in-Some.query ∙ ap e.stack next ∙ next_none c.args.self.now e is c.args.rule

pub returns : goal.returns
returns c = λ e is some.
    let rule = this_rule (rule_at e.rules c.args.rule) some in
    let next : c.in-Some.query ≡ e.last + 1 = c.in-Some.ensures.1 ∙ ap (λ n. n + 1) is.last in (
      ap Some next,
      add_is c.args.self.now e is c.args.rule c.in-Some.query rule.0 rule.1 next c.seek.new.self
          (c.in_ok-seek.ensures is.claimed is.claims) c.add.new.self c.in_ok-add.ensures.stacks c.in_ok-add.ensures.count,
    )
