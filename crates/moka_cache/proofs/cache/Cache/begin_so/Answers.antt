-- The call is begun as the state says, or the state stays fresh.
use Rattle.moka_cache.specs.Asked.{Accords}
use Rattle.moka_cache.specs.Settings.{rules_of}
use Rattle.moka_cache.specs.Starts.{called}
use Rattle.moka_hist.specs.Run.{fresh_call}
use Rattle.moka_hist.specs.declared.events.Start.{Start}
use Rattle.moka_kept.specs.Facts.{facts}
use Rattle.moka_cache.specs.Polled.{FirstIs}
use Rattle.std.proofs.Common.{ap, subst}
use Rattle.moka_cache.proofs.Polling.{begun_meets, first_polled, named_first, named_unbegun, unbegun_polled}
use Rattle.moka_cache.proofs.Staying.{asked_still}
use Rattle.moka_cache.proofs.cache.Cache.begin_so.Goals as goal

pub enter-requires-clause-so : goal.enter-requires-clause-so
enter-requires-clause-so g c =
    begun_meets (facts g.K.PartialEq.eq g.P.Fact.holds) (Accords (g.Q.Asked.gives c.args.asked.now) (g.Q.Asked.tests c.args.asked.now)) (called {E = g.row.E.Denot} (rules_of c.args.self.now) g.A.Begin.start)
    (g.A.Begin.named c.args.begin) c.in-Ok.begun.named c.args.begin (fresh_call 1 (rules_of c.args.self.now) c.in-Ok.begun.start)
    c.in-Ok.ensures.key (ap (λ (s : Start g.row.K.Denot g.row.V.Denot). fresh_call 1 (rules_of c.args.self.now) s) c.in-Ok.ensures.ok) c.requires.so

pub returns-in-Ok-clause-polled : goal.returns-in-Ok-clause-polled
returns-in-Ok-clause-polled g c =
    let f = facts g.K.PartialEq.eq g.P.Fact.holds in
    let such = Accords (g.Q.Asked.gives c.args.asked.now) (g.Q.Asked.tests c.args.asked.now) in
    let rules = rules_of c.args.self.now in
    first_polled f such (called rules g.A.Begin.start) c.args.begin c.enter.result c.enter.new.stage
    (subst (λ (s : Start g.row.K.Denot g.row.V.Denot). FirstIs f such (fresh_call 1 rules s) c.enter.result c.enter.new.stage) c.in-Ok.ensures.ok c.enter.ensures.first)

pub returns-in-Ok-clause-names : goal.returns-in-Ok-clause-names
returns-in-Ok-clause-names g c =
    named_first g.A.Begin.named (facts g.K.PartialEq.eq g.P.Fact.holds) (Accords (g.Q.Asked.gives c.args.asked.now) (g.Q.Asked.tests c.args.asked.now))
    (fresh_call 1 (rules_of c.args.self.now) c.in-Ok.begun.start) c.args.begin c.args.named.now c.in-Ok.begun.named c.enter.result c.enter.new.stage c.in-Ok.ensures.key c.enter.ensures.first

pub returns-in-Ok-clause-asked : goal.returns-in-Ok-clause-asked
returns-in-Ok-clause-asked g c = c.enter.ensures.asked

pub returns-in-Ok-clause-context : goal.returns-in-Ok-clause-context
returns-in-Ok-clause-context g c = c.enter.ensures.context

pub returns-in-Err-clause-polled : goal.returns-in-Err-clause-polled
returns-in-Err-clause-polled g c =
    unbegun_polled (facts g.K.PartialEq.eq g.P.Fact.holds) (Accords (g.Q.Asked.gives c.args.asked.now) (g.Q.Asked.tests c.args.asked.now)) (called {E = g.row.E.Denot} (rules_of c.args.self.now) g.A.Begin.start)
    c.args.begin c.in-Err.kept c.put.new.stage c.in-Err.ensures.err c.put.ensures

pub returns-in-Err-clause-names : goal.returns-in-Err-clause-names
returns-in-Err-clause-names g c = named_unbegun g.A.Begin.named c.args.begin c.in-Err.kept c.args.named.now c.put.new.stage c.in-Err.ensures.err c.put.ensures

pub returns-in-Err-clause-asked : goal.returns-in-Err-clause-asked
returns-in-Err-clause-asked g c = asked_still g.Q.Asked.can_poll g.Q.Asked.gives g.Q.Asked.tests c.args.asked.now c.requires.asks

pub returns-in-Err-clause-context : goal.returns-in-Err-clause-context
returns-in-Err-clause-context g c = record { kept = λ fact holds. holds; armed = tt }
