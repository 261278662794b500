-- The call comes to its end, or memory was wanting.
use Rattle.std.proofs.Common.{refl}
use Rattle.moka_collapsing.specs.Reference.{opens}
use Rattle.moka_collapsing.specs.Runs.{Open}
use Rattle.moka_gateway.proofs.After.{after_one}
use Rattle.moka_gateway.proofs.Parts.{carried, had_before, on_err, spent_usable, stays_usable, still_spent}
use Rattle.moka_gateway.proofs.gateway.Gateway.open.Goals as goal

pub open_next-requires : goal.open_next-requires
open_next-requires c = had_before c.args.self.now c.begin.new.self c.in_ok-begin.ensures.ok c.requires.usable

pub returns-clause-answers : goal.returns-clause-answers
returns-clause-answers c =
    carried c.args.self.now c.begin.new.self c.in_ok-begin.ensures.ok c.in_ok-number.number opens c.open_next.new.self _
    c.in_ok-number.ensures.answers refl

pub returns-clause-usable : goal.returns-clause-usable
returns-clause-usable c =
    stays_usable c.args.self.now c.begin.new.self c.in_ok-begin.ensures.ok c.in_ok-number.number opens c.open_next.new.self _
    c.in_ok-number.ensures.answers refl c.requires.usable

pub returns-in_err-begin-clause-usable : goal.returns-in_err-begin-clause-usable
returns-in_err-begin-clause-usable c = spent_usable _ c.in_err-begin.ensures.err

pub returns-in_err-number-clause-usable : goal.returns-in_err-number-clause-usable
returns-in_err-number-clause-usable c = spent_usable _ (still_spent c.args.self.now c.begin.new.self c.in_ok-begin.ensures.ok c.open_next.new.self c.open_next.ensures.spent)

pub returns-in_err-number-clause-spent : goal.returns-in_err-number-clause-spent
returns-in_err-number-clause-spent c =
    on_err c.from_residual-in_err-number.result (still_spent c.args.self.now c.begin.new.self c.in_ok-begin.ensures.ok c.open_next.new.self c.open_next.ensures.spent)

pub returns-clause-after : goal.returns-clause-after
returns-clause-after c = after_one c.runs_are_served.ensures c.args.self.now _ Open (λ g is.
    (carried c.args.self.now c.begin.new.self c.in_ok-begin.ensures.ok c.in_ok-number.number opens c.open_next.new.self _
    c.in_ok-number.ensures.answers refl g is).1)
