-- A state that is fresh is begun, and one whose call was begun goes on.
use Rattle.moka_cache.specs.Asked.{Accords}
use Rattle.moka_cache.specs.Settings.{rules_of}
use Rattle.moka_cache.specs.Starts.{called}
use Rattle.moka_kept.specs.Facts.{facts}
use Rattle.moka_cache.proofs.Polling.{named_on, polled_on, runs_now, spent_polled}
use Rattle.moka_cache.proofs.Staging.{named_same}
use Rattle.moka_cache.proofs.Staying.{asked_still}
use Rattle.moka_cache.proofs.cache.Cache.poll_stage.Goals as goal

pub begin-requires-clause-so : goal.begin-requires-clause-so
begin-requires-clause-so g c = c.requires.so

pub returns-in-Fresh-clause-polled : goal.returns-in-Fresh-clause-polled
returns-in-Fresh-clause-polled g c = c.begin.ensures.polled

pub returns-in-Fresh-clause-names : goal.returns-in-Fresh-clause-names
returns-in-Fresh-clause-names g c = c.begin.ensures.names

pub returns-in-Fresh-clause-asked : goal.returns-in-Fresh-clause-asked
returns-in-Fresh-clause-asked g c = c.begin.ensures.asked

pub returns-in-Fresh-clause-context : goal.returns-in-Fresh-clause-context
returns-in-Fresh-clause-context g c = c.begin.ensures.context

pub advance-requires-clause-so : goal.advance-requires-clause-so
advance-requires-clause-so g c =
    runs_now (facts g.K.PartialEq.eq g.P.Fact.holds) (Accords (g.Q.Asked.gives c.args.asked.now) (g.Q.Asked.tests c.args.asked.now)) (called {E = g.row.E.Denot} (rules_of c.args.self.now) g.A.Begin.start) g.A.Begin.named
    c.args.stage.now c.args.named.now c.requires.so

pub returns-in-Running-clause-polled : goal.returns-in-Running-clause-polled
returns-in-Running-clause-polled g c =
    let after = c.advance.ensures in
    polled_on (facts g.K.PartialEq.eq g.P.Fact.holds) (Accords (g.Q.Asked.gives c.args.asked.now) (g.Q.Asked.tests c.args.asked.now)) (called {E = g.row.E.Denot} (rules_of c.args.self.now) g.A.Begin.start)
    c.args.stage.now c.advance.new.stage c.advance.result after.answers after.failed after.came after.spent after.pending after.again after.over

pub returns-in-Running-clause-names : goal.returns-in-Running-clause-names
returns-in-Running-clause-names g c =
    named_on g.A.Begin.named c.args.stage.now c.advance.new.stage c.args.named.now c.advance.result c.advance.ensures.names c.advance.ensures.names_on c.advance.ensures.begun

pub returns-in-Running-clause-asked : goal.returns-in-Running-clause-asked
returns-in-Running-clause-asked g c = c.advance.ensures.asked

pub returns-in-Running-clause-context : goal.returns-in-Running-clause-context
returns-in-Running-clause-context g c = c.advance.ensures.context

pub returns-in-Spent-clause-polled : goal.returns-in-Spent-clause-polled
returns-in-Spent-clause-polled g c =
    spent_polled (facts g.K.PartialEq.eq g.P.Fact.holds) (Accords (g.Q.Asked.gives c.args.asked.now) (g.Q.Asked.tests c.args.asked.now)) (called {E = g.row.E.Denot} (rules_of c.args.self.now) g.A.Begin.start)
    c.args.stage.now c.in-Spent.is

pub returns-in-Spent-clause-names : goal.returns-in-Spent-clause-names
returns-in-Spent-clause-names g c = named_same g.A.Begin.named c.args.stage.now c.args.named.now

pub returns-in-Spent-clause-asked : goal.returns-in-Spent-clause-asked
returns-in-Spent-clause-asked g c = asked_still g.Q.Asked.can_poll g.Q.Asked.gives g.Q.Asked.tests c.args.asked.now c.requires.asks

pub returns-in-Spent-clause-context : goal.returns-in-Spent-clause-context
returns-in-Spent-clause-context g c = record { kept = λ fact holds. holds; armed = tt }
