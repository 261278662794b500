use Rattle.moka_bucket_cases.proofs.keys.finish.Goals as goal

pub returns-in_err-step_key : goal.returns-in_err-step_key
returns-in_err-step_key g c = record { listing = c.in_err-step_key.ensures.keys c.args.call.now c.loop.invariant.1 }

pub returns-in-Decided : goal.returns-in-Decided
returns-in-Decided g c = record { listing = c.in_ok-step_key.ensures.keys c.args.call.now c.loop.invariant.1 }

pub loop-preserved : goal.loop-preserved
loop-preserved g c = ((c.in_ok-step_key.ensures.undecided c.in-Going.is).1, c.in_ok-step_key.ensures.keys c.args.call.now c.loop.invariant.1)
