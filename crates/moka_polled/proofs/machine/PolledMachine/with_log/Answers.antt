-- The fresh cache is seen as the empty small state.
use Rattle.moka_small.specs.Small.{empty}
use Rattle.moka_polled.proofs.Carrying.{builds}
use Rattle.moka_polled.proofs.machine.PolledMachine.with_log.Goals as goal

pub returns-in-Ok-clause-empty : goal.returns-in-Ok-clause-empty
returns-in-Ok-clause-empty g c =
    builds g.K.PartialEq.eq c.in-Ok.machine c.args.capacity c.args.log c.fresh_is_empty.ensures.fresh
    c.requires.stores c.requires.least c.in-Ok.ensures.fresh

pub returns-in-Ok-clause-usable : goal.returns-in-Ok-clause-usable
returns-in-Ok-clause-usable g c = λ unspent. (
  empty c.args.capacity,
  builds g.K.PartialEq.eq c.in-Ok.machine c.args.capacity c.args.log c.fresh_is_empty.ensures.fresh
      c.requires.stores c.requires.least c.in-Ok.ensures.fresh,
  tt,
)
