use Rattle.moka_desk.proofs.writes.Writes.give_up.Goals as goal

pub returns-in-Some-Own-clause-makes : goal.returns-in-Some-Own-clause-makes
returns-in-Some-Own-clause-makes c = λ p h may. c.give_place_up.ensures.makes p h
