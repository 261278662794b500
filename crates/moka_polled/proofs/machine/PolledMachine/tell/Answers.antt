-- The answer is one that the call takes.
use Rattle.std.proofs.Common.{Some}
use Rattle.moka_small.specs.Small.{Was_told, with_stand}
use Rattle.moka_polled.specs.Polled.{TakesAnswer}
use Rattle.moka_polled.proofs.Carrying.{still_usable, tells}
use Rattle.moka_polled.proofs.machine.PolledMachine.tell.Goals as goal

pub returns-clause-told : goal.returns-clause-told
returns-clause-told g c = λ m load end p taken.
    let told = c.in_ok-_took.ensures.serves m p in
    (tells g.K.PartialEq.eq c.told.new.self m c.tell_is_told.ensures.told c.args.call c.args.answer load end told.reply
    taken told.served).1

pub returns-clause-usable : goal.returns-clause-usable
returns-clause-usable g c =
    still_usable g.K.PartialEq.eq c.args.self.now c.told.new.self (TakesAnswer c.args.call c.args.answer) c.requires.asks
    (λ spent. absurd (c.in_ok-_took.ensures.stays spent))
    (λ m p taken. let told = c.in_ok-_took.ensures.serves m p in (
      with_stand m c.args.call (Some (Was_told taken.0 taken.1)),
      (tells g.K.PartialEq.eq c.told.new.self m
          c.tell_is_told.ensures.told c.args.call c.args.answer taken.0 taken.1 told.reply taken.2 told.served).1,
    ))
