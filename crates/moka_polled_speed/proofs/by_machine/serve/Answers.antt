-- What an event leaves is reached.
use Rattle.std.proofs.Common.{nat_eq}
use Rattle.moka_laws.proofs.Reached.{event_reached}
use Rattle.moka_polled_speed.proofs.by_machine.serve.Goals as goal

pub returns-in-Ok : goal.returns-in-Ok
returns-in-Ok c =
    let was = c.requires.valid in
    let t = c.in-Ok.ensures.serves was.state was.stands was.reached in
    record {
      state = t.0;
      stands = t.2;
      reached = event_reached nat_eq was.state t.0 c.args.event.now c.in-Ok.reply was.reached t.1;
    }
