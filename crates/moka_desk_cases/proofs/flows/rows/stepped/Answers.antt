-- The answer is of the form that belongs to the flow's access.
use Rattle.std.proofs.Common.{ℕ, rules, sym, subst}
use Rattle.moka_hist.specs.Step.{Access}
use Rattle.moka_init.specs.Forms.{HasForm}
use Rattle.moka_desk_cases.specs.Fitting.{FitsWant}
use Rattle.moka_init.specs.Grounds.{access_at}
use Rattle.moka_desk_cases.proofs.Fitting.{wanted_form}
use Rattle.moka_init.proofs.Still.{access_still}
use Rattle.moka_desk_cases.proofs.flows.rows.stepped.Goals as goal

pub take-left-requires-clause-form : goal.take-left-requires-clause-form
take-left-requires-clause-form c =
    let fits : FitsWant c.in_ok-want.want c.args.given = search rules in
    subst (λ (a : Access ℕ ℕ ℕ). HasForm a c.args.given)
    (sym (access_still c.args.flow.now c.want.new.self c.in_ok-want.ensures.still))
    (wanted_form c.args.flow.now.begun (access_at c.args.flow.now) c.in_ok-want.want c.args.given
    c.in_ok-want.ensures.want fits)
