use Rattle.moka_bucket_cases.proofs.lists.finish.Goals as goal

pub returns-in_err-step : goal.returns-in_err-step
returns-in_err-step g c = c.in_err-step.ensures.others c.args.beside.now c.loop.invariant.1

pub returns-in-Decided : goal.returns-in-Decided
returns-in-Decided g c = c.in_ok-step.ensures.others c.args.beside.now c.loop.invariant.1

pub loop-preserved : goal.loop-preserved
loop-preserved g c = ((c.in_ok-step.ensures.undecided c.in-Going.is).1, c.in_ok-step.ensures.others c.args.beside.now c.loop.invariant.1)
