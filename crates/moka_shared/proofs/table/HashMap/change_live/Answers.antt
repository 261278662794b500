use Rattle.std.proofs.Common.{inl, refl}
use Rattle.moka_history.proofs.Lists.{prefix_self}
use Rattle.moka_shared.proofs.table.HashMap.change_live.Goals as goal

pub change_from-requires-clause-here : goal.change_from-requires-clause-here
change_from-requires-clause-here g c = c.in-Here.ensures.stands

pub returns-in-Memory-clause-goes_on : goal.returns-in-Memory-clause-goes_on
returns-in-Memory-clause-goes_on g c = record { begins = prefix_self c.args.seat.now.front.log; is_log = c.requires.log }

pub returns-in-Memory-clause-answers : goal.returns-in-Memory-clause-answers
returns-in-Memory-clause-answers g c = record { mine = refl; none = inl refl }
