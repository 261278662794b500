-- Where some predicates may leave, all records are looked at first.
use Rattle.std.proofs.Common.{◌≡◌, [], ◌∷◌, sym, ◌∙◌, subst}
use Rattle.std.proofs.lemmas.Bool.{false≢true}
use Rattle.moka_hist.specs.Plan.{lists_from}
use Rattle.moka_hist.specs.Plan as plan
use Rattle.moka_init.specs.FlowPlan.{standing, GoesOn}
use Rattle.moka_init.proofs.Maintained.{chosen, chosen_none, goes_there}
use Rattle.moka_init.proofs.flow.Flow.chooses.Goals as goal

pub returns-then-is_empty : goal.returns-then-is_empty
returns-then-is_empty g c =
    rw (c.answers.ensures.turn, c.answers.ensures.flow)
    (chosen_none c.args.self.now (plan.Candidates c.args.parts ∷ []) c.args.parts c.args.ids (c.is_empty.ensures.0 c.if-is_empty.true))

pub returns-else-is_empty : goal.returns-else-is_empty
returns-else-is_empty g c =
    let old = c.args.self.now in
    let items = plan.Candidates c.args.parts ∷ [] in
    let all = lists_from 0 c.args.parts (plan.Retire ∷ []) in
    subst (λ next. GoesOn old next c.goes.result c.goes.new.self)
    (sym (chosen (standing old items) c.args.parts c.args.ids (λ e. false≢true (sym c.if-is_empty.false ∙ c.is_empty.ensures.1 e))))
    (rw (c.goes.ensures.turn, c.goes.ensures.flow) (goes_there old c.args.ids items all c.lists.result c.lists.ensures.plan c.lists.ensures.carries))
