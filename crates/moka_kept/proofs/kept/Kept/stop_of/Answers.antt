-- A call that asks or has answered finds no lock.
use Rattle.moka_kept.proofs.kept.Kept.stop_of.Goals as goal

pub returns-in-Ask-clause-finds : goal.returns-in-Ask-clause-finds
returns-in-Ask-clause-finds g c = c.asking.ensures.finds g.K.PartialEq.eq

pub returns-in-Answer-clause-finds : goal.returns-in-Answer-clause-finds
returns-in-Answer-clause-finds g c = c.answered.ensures.finds
