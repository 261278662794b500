-- A step that opens a notice takes no answer, and asks no test.
use Rattle.std.proofs.Common.{refl, sym, ◌∙◌}
use Rattle.std.proofs.lemmas.Bool.{false≢true}
use Rattle.std.proofs.lemmas.Option.{none-some}
use Rattle.moka_init.specs.FlowPlan.{call_of}
use Rattle.moka_init.specs.Grounds.{access_at}
use Rattle.moka_kept.proofs.Opened.{opens, opens_untaking, opens_untested}
use Rattle.moka_kept.proofs.Wanting.{of_call, tested_at}
use Rattle.moka_kept.proofs.ground.Reach.make_step.Goals as goal

pub open-requires-clause-kept : goal.open-requires-clause-kept
open-requires-clause-kept g c = c.requires.kept

pub open-requires-clause-rests : goal.open-requires-clause-rests
open-requires-clause-rests g c = c.requires.rests

pub open-requires-clause-may : goal.open-requires-clause-may
open-requires-clause-may g c = c.requires.may

pub open-requires-clause-ends : goal.open-requires-clause-ends
open-requires-clause-ends g c = c.requires.ends

pub open-requires-clause-reads : goal.open-requires-clause-reads
open-requires-clause-reads g c = c.requires.reads

pub open-requires-clause-due : goal.open-requires-clause-due
open-requires-clause-due g c = c.in-Some.ensures.due

pub open-requires-clause-unkept : goal.open-requires-clause-unkept
open-requires-clause-unkept g c = c.in-Some.ensures.unkept refl

pub step_allowed-requires-clause-kept : goal.step_allowed-requires-clause-kept
step_allowed-requires-clause-kept g c = c.requires.kept

pub step_allowed-requires-clause-rests : goal.step_allowed-requires-clause-rests
step_allowed-requires-clause-rests g c = c.requires.rests

pub step_allowed-requires-clause-may : goal.step_allowed-requires-clause-may
step_allowed-requires-clause-may g c = c.requires.may

pub step_allowed-requires-clause-ends : goal.step_allowed-requires-clause-ends
step_allowed-requires-clause-ends g c = c.requires.ends

pub step_allowed-requires-clause-so : goal.step_allowed-requires-clause-so
step_allowed-requires-clause-so g c = c.requires.so

pub step_allowed-requires-clause-reads : goal.step_allowed-requires-clause-reads
step_allowed-requires-clause-reads g c = c.requires.reads

pub step_allowed-requires-clause-noted : goal.step_allowed-requires-clause-noted
step_allowed-requires-clause-noted g c = c.requires.noted

pub returns-in-Some-clause-kept : goal.returns-in-Some-clause-kept
returns-in-Some-clause-kept g c = c.open.ensures.kept

pub returns-in-Some-clause-untaken : goal.returns-in-Some-clause-untaken
returns-in-Some-clause-untaken g c = λ untaken untested. c.open.ensures.untaken

pub returns-in-Some-clause-taken : goal.returns-in-Some-clause-taken
returns-in-Some-clause-taken g c = λ taking told there.
    let flow = c.args.flow.now in
    let due = opens flow.call flow.call (access_at flow) c.in-Some.opening c.in-Some.ensures.due (of_call flow.call (call_of flow)) refl in
    absurd (false≢true (sym (opens_untaking flow.call (access_at flow) c.in-Some.opening due) ∙ taking))

pub returns-in-Some-clause-judged : goal.returns-in-Some-clause-judged
returns-in-Some-clause-judged g c = λ value is.
    let flow = c.args.flow.now in
    let due = opens flow.call flow.call (access_at flow) c.in-Some.opening c.in-Some.ensures.due (of_call flow.call (call_of flow)) refl in
    absurd (none-some value (sym (opens_untested flow.call (access_at flow) c.in-Some.opening due) ∙ (tested_at flow.call (call_of flow) ∙ is)))

pub returns-in-Some-clause-leaves : goal.returns-in-Some-clause-leaves
returns-in-Some-clause-leaves g c = c.open.ensures.leaves

pub returns-in-Some-clause-begun : goal.returns-in-Some-clause-begun
returns-in-Some-clause-begun g c = c.open.ensures.begun

pub returns-in-Some-clause-number : goal.returns-in-Some-clause-number
returns-in-Some-clause-number g c = c.open.ensures.number

pub returns-in-Some-clause-err : goal.returns-in-Some-clause-err
returns-in-Some-clause-err g c = c.open.ensures.err

pub returns-in-None-clause-kept : goal.returns-in-None-clause-kept
returns-in-None-clause-kept g c = c.step_allowed.ensures.kept

pub returns-in-None-clause-untaken : goal.returns-in-None-clause-untaken
returns-in-None-clause-untaken g c = c.step_allowed.ensures.untaken

pub returns-in-None-clause-taken : goal.returns-in-None-clause-taken
returns-in-None-clause-taken g c = c.step_allowed.ensures.taken

pub returns-in-None-clause-judged : goal.returns-in-None-clause-judged
returns-in-None-clause-judged g c = c.step_allowed.ensures.judged

pub returns-in-None-clause-leaves : goal.returns-in-None-clause-leaves
returns-in-None-clause-leaves g c = c.step_allowed.ensures.leaves

pub returns-in-None-clause-begun : goal.returns-in-None-clause-begun
returns-in-None-clause-begun g c = c.step_allowed.ensures.begun

pub returns-in-None-clause-number : goal.returns-in-None-clause-number
returns-in-None-clause-number g c = c.step_allowed.ensures.number

pub returns-in-None-clause-err : goal.returns-in-None-clause-err
returns-in-None-clause-err g c = c.step_allowed.ensures.err
