-- The answer is of the form that belongs to the walk's access.
use Rattle.std.proofs.Common.{ℕ, rules, sym, subst, ◌∙◌}
use Rattle.moka_hist.specs.Step.{Access}
use Rattle.moka_init.specs.Forms.{HasForm}
use Rattle.moka_init.specs.Grounds.{access_at}
use Rattle.moka_init.proofs.Still.{access_still}
use Rattle.moka_walk_cases.specs.Wants.{FitsWalk}
use Rattle.moka_walk_cases.proofs.Fitting.{wanted_form}
use Rattle.moka_walk_cases.proofs.walks.step.Goals as goal

pub take-requires-clause-form : goal.take-requires-clause-form
take-requires-clause-form g c =
    let given = c.in-Some.given in
    let fits : FitsWalk c.in_ok-want.want given = search rules in
    let first = access_still c.args.flow.now c.want.new.self c.in_ok-want.ensures.still in
    let second = access_still c.want.new.self c.want-2.new.self c.in_ok-again.ensures.still in
    subst (λ (a : Access ℕ ℕ ℕ). HasForm a given) (sym (second ∙ first))
    (wanted_form c.args.flow.now.begun (access_at c.args.flow.now) c.in_ok-want.want given c.in_ok-want.ensures.want fits)
