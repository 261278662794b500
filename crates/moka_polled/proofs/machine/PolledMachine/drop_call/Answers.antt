-- The call is dropped, which needs no memory.
use Rattle.moka_small.specs.Polled.{gone_waiter}
use Rattle.moka_polled.specs.Polled.{MayDrop}
use Rattle.moka_polled.proofs.Carrying.{drop_served, still_spent, still_usable}
use Rattle.moka_polled.proofs.machine.PolledMachine.drop_call.Goals as goal

pub returns-clause-gone : goal.returns-clause-gone
returns-clause-gone g c =
    drop_served g.K.PartialEq.eq c.args.self.now c.serve.new.self c.args.call c.serve.result
    c.serve.ensures.serves c.serve.ensures.needs c.drop_is_gone.ensures.gone

pub returns-clause-usable : goal.returns-clause-usable
returns-clause-usable g c =
    still_usable g.K.PartialEq.eq c.args.self.now c.serve.new.self (MayDrop c.args.call) c.requires.alone
    (still_spent g.K.PartialEq.eq c.args.self.now c.serve.new.self c.serve.result c.serve.ensures.stays c.serve.ensures.spent)
    (λ m p may. (
      gone_waiter m c.args.call,
      drop_served g.K.PartialEq.eq c.args.self.now c.serve.new.self c.args.call
          c.serve.result c.serve.ensures.serves c.serve.ensures.needs c.drop_is_gone.ensures.gone m p may,
    ))
