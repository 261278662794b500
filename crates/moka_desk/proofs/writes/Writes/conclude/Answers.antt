use Rattle.moka_desk.proofs.writes.Writes.conclude.Goals as goal

pub returns-in-true-clause-makes : goal.returns-in-true-clause-makes
returns-in-true-clause-makes c = λ p h may. rw c.in-true.is (c.decide.ensures.makes p h)
