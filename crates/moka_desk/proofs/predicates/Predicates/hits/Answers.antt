use Rattle.std.proofs.Common.{◌<◌, arith}
use Rattle.moka_desk.proofs.Timely.{none_hits}
use Rattle.moka_desk.proofs.predicates.Predicates.hits.Goals as goal

pub returns-then-latest-stored : goal.returns-then-latest-stored
returns-then-latest-stored g c = λ p h.
    let stored = c.args.stored.now in
    let latest = c.index-latest.result.now in
    let early : latest.moment < stored.modified = omega arith in
    none_hits (g.T.Tests.hides c.args.tests.now) c.args.key.now stored.value stored.modified p.clock p.registered c.args.self.now.registered.items c.loop-place.place latest
    h.registered h.timely (omega arith) (omega arith) c.index-latest.ensures early c.loop-place.invariant
