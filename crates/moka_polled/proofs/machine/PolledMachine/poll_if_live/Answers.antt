-- The reply tells what the poll came to.
use Rattle.std.proofs.Common.{subst, sym, ◌∙◌}
use Rattle.moka_laws.proofs.Counting.{some_same}
use Rattle.moka_small.specs.Given.{AnswersOnly}
use Rattle.moka_polled.specs.Polled.{AnySmall}
use Rattle.moka_polled.proofs.Carrying.{polls, polls_either, polls_none, still_usable}
use Rattle.moka_polled.proofs.machine.PolledMachine.poll_if_live.Goals as goal

pub returns-clause-polled : goal.returns-clause-polled
returns-clause-polled g c = λ m stand p live.
    let came = polls g.K.PartialEq.eq c.serve.new.self m c.poll_is_polled.ensures.polled c.args.call c.in_ok-reply.reply
    (c.in_ok-reply.ensures.serves m p) stand live in
    (c.outcome_of.ensures ∙ came.0, came.1)

pub returns-clause-given : goal.returns-clause-given
returns-clause-given g c = λ m stand outcome p live is given has.
    let came = polls g.K.PartialEq.eq c.serve.new.self m c.poll_is_polled.ensures.polled c.args.call c.in_ok-reply.reply
    (c.in_ok-reply.ensures.serves m p) stand live in
    let told = c.answers_are_given.ensures.polled p.state m c.args.call stand given p.seen live has in
    (subst (AnswersOnly g.K.PartialEq.eq given stand) (some_same (sym (c.outcome_of.ensures ∙ came.0) ∙ is)) told.0, told.1)

pub returns-clause-none : goal.returns-clause-none
returns-clause-none g c = λ m p none.
    let came = polls_none g.K.PartialEq.eq c.serve.new.self m c.poll_is_polled.ensures.refused c.args.call
    c.in_ok-reply.reply (c.in_ok-reply.ensures.serves m p) none in
    (c.outcome_of.ensures ∙ came.0, came.1)

pub returns-clause-usable : goal.returns-clause-usable
returns-clause-usable g c =
    still_usable g.K.PartialEq.eq c.args.self.now c.serve.new.self AnySmall c.requires.usable
    (λ spent. absurd (c.in_ok-reply.ensures.stays spent))
    (λ m p any. polls_either g.K.PartialEq.eq c.serve.new.self m c.poll_is_polled.ensures.polled
    c.poll_is_polled.ensures.refused c.args.call c.in_ok-reply.reply (c.in_ok-reply.ensures.serves m p))
