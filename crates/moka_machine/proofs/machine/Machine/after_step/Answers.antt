-- The call after its step.
use Rattle.std.proofs.Common.{sym, subst}
use Rattle.moka_hist.specs.Finite.{put_at}
use Rattle.moka_hist.specs.declared.accesses.Turn.{Turn}
use Rattle.moka_init.specs.FlowPlan.{Leaves, left_in}
use Rattle.moka_machine.specs.Machine.{MachineIs}
use Rattle.moka_machine.proofs.machine.Machine.after_step.Goals as goal

pub returns-in-Answer-clause-stands : goal.returns-in-Answer-clause-stands
returns-in-Answer-clause-stands g c = λ others w h on leaves.
    subst (λ (t : Turn g.row.K.Denot g.row.V.Denot g.row.E.Denot). MachineIs g.K.PartialEq.eq g.T.Tests c.end_with.new.self (record { world = w; calls = put_at others c.args.call (left_in t c.args.flow.value) })) (sym c.in-Answer.is)
    (c.end_with.ensures.stands others w h)

pub returns-in-Going-clause-stands : goal.returns-in-Going-clause-stands
returns-in-Going-clause-stands g c = λ others w h on leaves.
    subst (λ (t : Turn g.row.K.Denot g.row.V.Denot g.row.E.Denot). MachineIs g.K.PartialEq.eq g.T.Tests c.put_in_with.new.self (record { world = w; calls = put_at others c.args.call (left_in t c.args.flow.value) })) (sym c.in-Going.is)
    (c.put_in_with.ensures.stands others w h (record { on = on; live = subst (λ (t : Turn g.row.K.Denot g.row.V.Denot g.row.E.Denot). Leaves t c.args.flow.value) c.in-Going.is leaves }))

pub returns-in-Wait-clause-stands : goal.returns-in-Wait-clause-stands
returns-in-Wait-clause-stands g c = λ others w h on leaves.
    subst (λ (t : Turn g.row.K.Denot g.row.V.Denot g.row.E.Denot). MachineIs g.K.PartialEq.eq g.T.Tests c.put_in_with-in-Wait.new.self (record { world = w; calls = put_at others c.args.call (left_in t c.args.flow.value) })) (sym c.in-Wait.is)
    (c.put_in_with-in-Wait.ensures.stands others w h (record { on = on; live = subst (λ (t : Turn g.row.K.Denot g.row.V.Denot g.row.E.Denot). Leaves t c.args.flow.value) c.in-Wait.is leaves }))

pub returns-in-Ask-clause-stands : goal.returns-in-Ask-clause-stands
returns-in-Ask-clause-stands g c = λ others w h on leaves.
    subst (λ (t : Turn g.row.K.Denot g.row.V.Denot g.row.E.Denot). MachineIs g.K.PartialEq.eq g.T.Tests c.put_in_with-in-Ask.new.self (record { world = w; calls = put_at others c.args.call (left_in t c.args.flow.value) })) (sym c.in-Ask.is)
    (c.put_in_with-in-Ask.ensures.stands others w h (record { on = on; live = subst (λ (t : Turn g.row.K.Denot g.row.V.Denot g.row.E.Denot). Leaves t c.args.flow.value) c.in-Ask.is leaves }))

pub returns-in-Item-clause-stands : goal.returns-in-Item-clause-stands
returns-in-Item-clause-stands g c = λ others w h on leaves.
    subst (λ (t : Turn g.row.K.Denot g.row.V.Denot g.row.E.Denot). MachineIs g.K.PartialEq.eq g.T.Tests c.put_in_with-in-Item.new.self (record { world = w; calls = put_at others c.args.call (left_in t c.args.flow.value) })) (sym c.in-Item.is)
    (c.put_in_with-in-Item.ensures.stands others w h (record { on = on; live = subst (λ (t : Turn g.row.K.Denot g.row.V.Denot g.row.E.Denot). Leaves t c.args.flow.value) c.in-Item.is leaves }))
