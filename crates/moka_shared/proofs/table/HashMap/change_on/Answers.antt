use Rattle.std.proofs.Common.{refl}
use Rattle.moka_shared.proofs.table.HashMap.change_on.Goals as goal

pub returns-in-Ok-clause-puts : goal.returns-in-Ok-clause-puts
returns-in-Ok-clause-puts g c = λ key e found can. (c.in-Ok.ensures.done key e found can, c.with_ticket.ensures)

pub returns-clause-puts : goal.returns-clause-puts
returns-clause-puts g c = λ key e found can. (
  refl,
  c.in-Err.ensures.none,
  c.met.ensures.met found c.args.drawn.ticket (λ bare. c.in-Err.ensures.met bare key e found can),
)

pub returns-in-Ok-clause-exchange : goal.returns-in-Ok-clause-exchange
returns-in-Ok-clause-exchange g c = (c.args.to, c.requires.chosen, c.in-Ok.ensures.exchanged)

pub returns-clause-exchange : goal.returns-clause-exchange
returns-clause-exchange g c = c.met.ensures.misses c.args.seat.now.front.log c.args.gap.now.word c.args.to c.requires.chosen c.in-Err.ensures.other
