-- A state that is pending has a number; what it may answer after a poll, it could answer before.
use Rattle.std.proofs.Common.{ap}
use Rattle.moka_cache.specs.Asked.{Accords}
use Rattle.moka_cache.specs.Settings.{rules_of}
use Rattle.moka_cache.proofs.Giving.{accords_weaker, gives_failed, gives_pending}
use Rattle.moka_cache.proofs.Staging.{numbered_by}
use Rattle.moka_cache.proofs.call.CacheCallState.poll.Goals as goal

pub returns-clause-numbered : goal.returns-clause-numbered
returns-clause-numbered g c = numbered_by g.K.PartialEq.eq g.Q.Asked.pends _ _ c.poll.result c.poll.new.self.stage c.poll.ensures.cause

pub returns-clause-same : goal.returns-clause-same
returns-clause-same g c =
    let old = c.args.self.now in
    let new = c.poll.new.self in
    gives_pending g.K.PartialEq.eq g.P.Fact.holds (Accords (g.Q.Asked.gives new.asked) (g.Q.Asked.tests new.asked)) (Accords (g.Q.Asked.gives old.asked) (g.Q.Asked.tests old.asked))
    (accords_weaker (g.Q.Asked.gives new.asked) (g.Q.Asked.gives old.asked) (g.Q.Asked.tests new.asked) (g.Q.Asked.tests old.asked) c.poll.ensures.same c.poll.ensures.tested) g.A.Begin.start g.A.Begin.named g.A.Begin.output
    (rules_of old.cache.now) (rules_of new.cache.now) (ap rules_of c.poll.ensures.cache) old.stage new.stage old.named new.named c.poll.ensures.suits c.poll.result c.poll.ensures.came c.poll.ensures.names

pub returns-clause-same_failed : goal.returns-clause-same_failed
returns-clause-same_failed g c =
    let old = c.args.self.now in
    let new = c.poll.new.self in
    gives_failed g.K.PartialEq.eq g.P.Fact.holds (Accords (g.Q.Asked.gives new.asked) (g.Q.Asked.tests new.asked)) (Accords (g.Q.Asked.gives old.asked) (g.Q.Asked.tests old.asked))
    (accords_weaker (g.Q.Asked.gives new.asked) (g.Q.Asked.gives old.asked) (g.Q.Asked.tests new.asked) (g.Q.Asked.tests old.asked) c.poll.ensures.same c.poll.ensures.tested) g.A.Begin.start g.A.Begin.named g.A.Begin.output
    (rules_of old.cache.now) (rules_of new.cache.now) (ap rules_of c.poll.ensures.cache) old.stage new.stage old.named new.named c.poll.ensures.suits c.poll.result c.poll.ensures.failed c.poll.ensures.names_on
