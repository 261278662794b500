-- The query was passed the rule, or looks at it.
use Rattle.std.proofs.Common.{sym, ap, ◌∙◌}
use Rattle.std.proofs.lemmas.Result.{IfOk-weaker}
use Rattle.moka_evaluator.specs.Evaluator.{is_owner}
use Rattle.moka_memo.proofs.Passed.{own_turns, owner_so}
use Rattle.moka_memo.proofs.memo.Memo.seek.Goals as goal

pub look-requires : goal.look-requires
look-requires c =
    let stands = c.requires.stands in
    let e = stands.0 in
    let is = stands.1.0 in
    let s = stands.1.1 in (
      e,
      (
        is,
        (
          s.0,
          (
            s.1.0,
            (
              ap (λ f. f.rule) s.1.1,
              (
                ap (λ f. f.owns) s.1.1 ∙ c.requires.seeks,
                owner_so c.args.self.now e is c.args.query c.args.top.rule ∙ sym c.owns.ensures ∙ c.if-owns.false,
              ),
            ),
          ),
        ),
      ),
    )

pub returns-then-owns : goal.returns-then-owns
returns-then-owns c = λ e s is at same.
    own_turns c.args.self.now e is c.args.query s at (ap (λ f. f.owns) same ∙ c.requires.seeks)
    (ap (λ f. is_owner e c.args.query f.rule) same ∙
    owner_so c.args.self.now e is c.args.query c.args.top.rule ∙ sym c.owns.ensures ∙ c.if-owns.true)
    c.own.new.self c.own.ensures.stacks c.own.ensures.count

pub returns : goal.returns
returns c = IfOk-weaker c.look.result _ _ (λ turn came e s is at same.
    came e s is at (ap (λ f. f.rule) same) (ap (λ f. f.owns) same ∙ c.requires.seeks)
    (owner_so c.args.self.now e is c.args.query c.args.top.rule ∙ sym c.owns.ensures ∙ c.if-owns.false))
    c.look.ensures
