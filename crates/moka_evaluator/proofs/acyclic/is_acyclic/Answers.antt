-- Each rule passes the test, or one doesn't.
use Rattle.std.proofs.Common.{false, refl, sym, ◌∙◌}
use Rattle.std.proofs.lemmas.Bool.{false≢true}
use Rattle.moka_evaluator.proofs.Earlier.{all_pass, one_fails, pass_more}
use Rattle.moka_evaluator.proofs.acyclic.is_acyclic.Goals as goal

pub returns-then-not-has_earlier_operands : goal.returns-then-not-has_earlier_operands
returns-then-not-has_earlier_operands c = (
  λ t. absurd (false≢true t),
  λ acyclic. absurd (one_fails c.args.rules.now c.loop-earlier.earlier _ c.loop-earlier-test.true
      (sym c.has_earlier_operands.ensures ∙ c.if-not-has_earlier_operands.true) acyclic),
)

pub loop-earlier-preserved : goal.loop-earlier-preserved
loop-earlier-preserved c =
    pass_more c.args.rules.now c.loop-earlier.earlier _ c.loop-earlier.invariant
    (sym c.has_earlier_operands.ensures ∙ c.if-not-has_earlier_operands.false)

pub returns : goal.returns
returns c = (
  λ t. all_pass c.args.rules.now c.loop-earlier.earlier c.loop-earlier-test.false c.loop-earlier.invariant,
  λ acyclic. refl,
)
