-- All keys are counted, and none is left.
use Rattle.std.proofs.Common.{sym, ◌∙◌}
use Rattle.moka_behind.specs.declared.behind.Behind.{Behind}
use Rattle.moka_behind.proofs.Behinds.{empty_after, shed_so, usable_after}
use Rattle.moka_behind.proofs.behind.Behind.shed.Goals as goal

pub returns-clause-shed : goal.returns-clause-shed
returns-clause-shed c =
    shed_so c.try_shed-count.result c.args.self.now _
    (λ e. c.is_err-self.ensures.value ∙ e, λ e. sym c.is_err-self.ensures.value ∙ e) c.try_shed-count.ensures.unsent c.try_shed-count.ensures.empty
    c.try_shed-count.ensures.count

pub returns-clause-usable : goal.returns-clause-usable
returns-clause-usable c =
    let new : Behind = record c.try_shed-count.new.self { spent = c.is_err-self.result } in
    usable_after c.try_shed-count.result c.args.self.now new
    (λ e. c.is_err-self.ensures.value ∙ e, λ e. sym c.is_err-self.ensures.value ∙ e)
    c.try_shed-count.ensures.stays c.requires.usable
    (empty_after c.try_shed-count.result c.args.self.now new c.try_shed-count.ensures.empty)
