-- The step that is allowed is made in the world that is kept, and takes the answer that is there.
use Rattle.std.proofs.Common.{◌∙◌, ap, refl}
use Rattle.moka_kept.specs.Facts.{ends_in}
use Rattle.moka_kept.proofs.ground.Reach.step.Goals as goal

pub may_step-requires : goal.may_step-requires
may_step-requires g c = c.in-Ok.ensures.ok

pub step_noted-requires-clause-kept : goal.step_noted-requires-clause-kept
step_noted-requires-clause-kept g c = c.requires.kept

pub step_noted-requires-clause-rests : goal.step_noted-requires-clause-rests
step_noted-requires-clause-rests g c = c.requires.rests

pub step_noted-requires-clause-may : goal.step_noted-requires-clause-may
step_noted-requires-clause-may g c = c.in-true.ensures.may

pub step_noted-requires-clause-ends : goal.step_noted-requires-clause-ends
step_noted-requires-clause-ends g c = c.in-true.ensures.ends

pub step_noted-requires-clause-so : goal.step_noted-requires-clause-so
step_noted-requires-clause-so g c = c.requires.so

pub step_noted-requires-clause-value : goal.step_noted-requires-clause-value
step_noted-requires-clause-value g c = c.ends_value-ends.ensures ∙ ap ends_in c.in-Ok.ensures.ok

pub returns-in-true-clause-untaken : goal.returns-in-true-clause-untaken
returns-in-true-clause-untaken g c = λ takes untested. c.step_noted.ensures.untaken (c.in-true.ensures.takes ∙ takes) untested

pub returns-in-true-clause-taken : goal.returns-in-true-clause-taken
returns-in-true-clause-taken g c = λ takes told there. c.step_noted.ensures.taken (c.in-true.ensures.takes ∙ takes) told there

pub returns-in-true-clause-judged : goal.returns-in-true-clause-judged
returns-in-true-clause-judged g c = c.step_noted.ensures.judged

pub returns-in-false-clause-kept : goal.returns-in-false-clause-kept
returns-in-false-clause-kept g c = c.requires.kept

pub returns-in-false-clause-untaken : goal.returns-in-false-clause-untaken
returns-in-false-clause-untaken g c = λ takes untested. tt

pub returns-in-false-clause-taken : goal.returns-in-false-clause-taken
returns-in-false-clause-taken g c = λ takes told there. tt

pub returns-in-false-clause-judged : goal.returns-in-false-clause-judged
returns-in-false-clause-judged g c = λ value is. tt

pub returns-in-false-clause-begun : goal.returns-in-false-clause-begun
returns-in-false-clause-begun g c = c.requires.rests.begun

pub returns-in-false-clause-number : goal.returns-in-false-clause-number
returns-in-false-clause-number g c = refl
