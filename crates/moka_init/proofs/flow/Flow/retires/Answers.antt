-- The visit lets predicates go, which is answered.
use Rattle.std.proofs.Common.{sym}
use Rattle.moka_init.proofs.Leaving.{begun_by, done_by}
use Rattle.moka_init.proofs.flow.Flow.retires.Goals as goal

pub returns-clause-next : goal.returns-clause-next
returns-clause-next g c = λ given form.
    let there = c.requires.there in
    sym (done_by c.args.self.now there.0 there.1 given form)

pub returns-clause-begun : goal.returns-clause-begun
returns-clause-begun g c = λ given form.
    let there = c.requires.there in
    rw (c.stands_at.ensures) (sym (begun_by c.args.self.now there.0 there.1 given form))
