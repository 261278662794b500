-- The run goes on by the event, and the state stays one that a run can reach.
use Rattle.moka_make.proofs.Runs.{ran_next}
use Rattle.moka_make.proofs.running.run_event.Goals as goal

pub returns-in-Ok-clause-goes_on : goal.returns-in-Ok-clause-goes_on
returns-in-Ok-clause-goes_on c = λ first before ran.
    ran_next c.reached_by_event.ensures.reached c.event_is_lawful.ensures.lawful
    c.reached_is_lawful.ensures.lawful c.lawful_run_goes_on.ensures.goes_on first before c.args.event
    c.in-Ok.reply c.args.replies.now c.count.new.self c.args.cache.now c.serve.new.cache
    c.in-Ok.ensures c.count.ensures.counts ran

pub returns-in-Ok-clause-valid : goal.returns-in-Ok-clause-valid
returns-in-Ok-clause-valid c =
    let v = c.requires.valid in
    let served = c.in-Ok.ensures v.state v.stands v.reached in
    record {
      state = served.0;
      stands = served.2;
      reached = c.reached_by_event.ensures.reached v.state served.0 c.args.event c.in-Ok.reply
          v.reached served.1;
    }
