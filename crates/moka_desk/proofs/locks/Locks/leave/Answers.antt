use Rattle.moka_desk.proofs.locks.Locks.leave.Goals as goal

pub returns-in-true : goal.returns-in-true
returns-in-true g c = λ p h. rw c.in-true.is (c.keep.ensures p h)

pub returns-in-false : goal.returns-in-false
returns-in-false g c = λ p h. rw c.in-false.is (c.free.ensures p h)
