-- The rule tells which operand the frame needs.
use Rattle.std.proofs.Common.{sym, ap, ◌∙◌, subst}
use Rattle.std.proofs.lemmas.Result.{IfOk-weaker}
use Rattle.std.specs.Option.{option_and_then}
use Rattle.moka_evaluator.specs.Plain.{next_operand}
use Rattle.moka_evaluator.specs.Steps.{works}
use Rattle.moka_memo.specs.Memo.{Turns}
use Rattle.moka_memo.proofs.Turning.{needs_so, top_owns}
use Rattle.moka_memo.proofs.memo.Memo.work_by.Goals as goal

pub put_on-requires : goal.put_on-requires
put_on-requires c =
    let stands = c.requires.stands in
    let e = stands.0 in
    let is = stands.1.0 in
    let s = stands.1.1 in (
      e,
      (
        is,
        (
          s.0,
          (
            s.1.0,
            (
              top_owns c.args.self.now e is c.args.query s.0 s.1.0 c.args.top s.1.1 c.requires.owns,
              needs_so c.args.self.now e is c.args.query s.0 s.1.0 c.args.top s.1.1 c.args.rule c.requires.rule ∙
                  sym c.next_operand.ensures ∙ c.in-Some.is,
            ),
          ),
        ),
      ),
    )

pub make_known-requires-clause-needs : goal.make_known-requires-clause-needs
make_known-requires-clause-needs c =
    ap (option_and_then (λ rule. next_operand rule c.args.top.operands)) c.requires.rule ∙ sym c.next_operand.ensures ∙ c.in-None.is

pub returns-in-Some : goal.returns-in-Some
returns-in-Some c = IfOk-weaker c.put_on.result _ _ (λ turn came e s is at same.
    let need = needs_so c.args.self.now e is c.args.query s at c.args.top same c.args.rule c.requires.rule ∙
    sym c.next_operand.ensures ∙ c.in-Some.is in
    subst (λ x. Turns c.put_on.new.self turn (works e c.args.query s x)) (sym need)
    (came e s is at (top_owns c.args.self.now e is c.args.query s at c.args.top same c.requires.owns) need))
    c.put_on.ensures

pub returns-in-None : goal.returns-in-None
returns-in-None c = IfOk-weaker c.make_known.result _ _ (λ turn came e s is at same.
    let none = needs_so c.args.self.now e is c.args.query s at c.args.top same c.args.rule c.requires.rule ∙
    sym c.next_operand.ensures ∙ c.in-None.is in
    subst (λ x. Turns c.make_known.new.self turn (works e c.args.query s x)) (sym none) (came e s is at same))
    c.make_known.ensures
