-- The reply has the number, which the law tells.
use Rattle.std.proofs.Common.{sym, ◌∙◌}
use Rattle.moka_small.specs.Small.{started}
use Rattle.moka_polled.specs.Polled.{AnySmall}
use Rattle.moka_polled.proofs.Carrying.{starts, still_usable}
use Rattle.moka_polled.proofs.machine.PolledMachine.start.Goals as goal

pub returns-in-Some-clause-started : goal.returns-in-Some-clause-started
returns-in-Some-clause-started g c = λ m p.
    starts g.K.PartialEq.eq c.serve.new.self m c.start_is_started.ensures.started c.args.start c.requires.plain
    c.in_ok-reply.reply c.in-Some.call (sym c.call_of.ensures ∙ c.in-Some.is) (c.in_ok-reply.ensures.serves m p)

pub returns-in-Some-clause-usable : goal.returns-in-Some-clause-usable
returns-in-Some-clause-usable g c =
    still_usable g.K.PartialEq.eq c.args.self.now c.serve.new.self AnySmall c.requires.usable
    (λ spent. absurd (c.in_ok-reply.ensures.stays spent))
    (λ m p any. (
      started m c.args.start,
      (starts g.K.PartialEq.eq c.serve.new.self m c.start_is_started.ensures.started
          c.args.start c.requires.plain c.in_ok-reply.reply c.in-Some.call (sym c.call_of.ensures ∙ c.in-Some.is)
          (c.in_ok-reply.ensures.serves m p)).1,
    ))
