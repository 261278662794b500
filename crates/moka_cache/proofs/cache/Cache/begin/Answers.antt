-- The state is the one that was fresh.
use Rattle.std.proofs.Common.{sym, ◌∙◌, subst}
use Rattle.moka_cache.specs.Asked.{Accords}
use Rattle.moka_cache.specs.Meets.{MeetsFact}
use Rattle.moka_cache.specs.Polled.{KeepsName, StagePollIs}
use Rattle.moka_cache.specs.Settings.{rules_of}
use Rattle.moka_cache.specs.Starts.{called}
use Rattle.moka_kept.specs.Facts.{facts}
use Rattle.moka_cache.proofs.cache.Cache.begin.Goals as goal

pub begin_so-requires-clause-so : goal.begin_so-requires-clause-so
begin_so-requires-clause-so g c =
    subst (λ s. MeetsFact g.K.PartialEq.eq g.P.Fact.holds g.A.Begin.named (g.Q.Asked.gives c.args.asked.now) (g.Q.Asked.tests c.args.asked.now) (called {E = g.row.E.Denot} (rules_of c.args.self.now) g.A.Begin.start) s c.args.named.now)
    (sym c.replace.ensures.value ∙ c.in-Fresh.is) c.requires.so

pub returns-clause-polled : goal.returns-clause-polled
returns-clause-polled g c =
    subst (λ s. StagePollIs (facts g.K.PartialEq.eq g.P.Fact.holds) (Accords (g.Q.Asked.gives c.args.asked.now) (g.Q.Asked.tests c.args.asked.now)) (called {E = g.row.E.Denot} (rules_of c.args.self.now) g.A.Begin.start) s c.begin_so.result c.begin_so.new.stage)
    (sym (sym c.replace.ensures.value ∙ c.in-Fresh.is)) c.begin_so.ensures.polled

pub returns-clause-names : goal.returns-clause-names
returns-clause-names g c =
    subst (λ s. KeepsName g.A.Begin.named s c.args.named.now c.begin_so.result c.begin_so.new.stage c.begin_so.new.named) (sym (sym c.replace.ensures.value ∙ c.in-Fresh.is)) c.begin_so.ensures.names
