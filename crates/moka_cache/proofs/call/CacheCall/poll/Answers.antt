-- What a state came to, it came to from where it was; so it still fits what it was started for.
use Rattle.moka_kept.specs.Facts.{facts}
use Rattle.std.proofs.Common.{sym, ap, ◌∙◌, subst}
use Rattle.moka_cache.specs.Asked.{Accords, ToldSuch}
use Rattle.moka_cache.specs.Settings.{rules_of}
use Rattle.moka_cache.specs.Starts.{called}
use Rattle.moka_cache.specs.Suits.{Suits}
use Rattle.moka_cache.proofs.Giving.{accords_weaker}
use Rattle.moka_cache.proofs.Meeting.{meets_since, over_stage}
use Rattle.moka_cache.proofs.Polling.{answered_by, failed_by, named_answered, named_failed}
use Rattle.moka_cache.proofs.Suiting.{accords_told, answers_plain, answers_weaker, suits_answer, suits_on, tells_on, tells_over}
use Rattle.moka_cache.proofs.call.CacheCall.poll.Goals as goal

pub returns-in-Ready-Ok-clause-answers : goal.returns-in-Ready-Ok-clause-answers
returns-in-Ready-Ok-clause-answers g c =
    let such = Accords (g.Q.Asked.gives c.args.self.now.asked) (g.Q.Asked.tests c.args.self.now.asked) in
    let rules = rules_of c.args.self.now.cache.now in
    let start = g.A.Begin.start in
    let by = (answered_by (facts g.K.PartialEq.eq g.P.Fact.holds) (Accords (g.Q.Asked.gives c.args.self.now.asked) (g.Q.Asked.tests c.args.self.now.asked)) (called {E = g.row.E.Denot} (rules_of c.args.self.now.cache.now) g.A.Begin.start) c.args.self.now.stage c.poll_stage.new.stage c.in-Ready-Ok.field-0 c.in-Ready-Ok.answer c.in-Ready-Ok.field-0-is c.in-Ready-Ok.ensures.polled).0 in (
      c.in-Ready-Ok.answer,
      by,
      suits_answer (facts g.K.PartialEq.eq g.P.Fact.holds) c.shapes_fit.ensures.fits such rules start c.args.self.now.stage c.in-Ready-Ok.answer by,
      c.output.ensures.told
          ∙ ap (λ named. g.A.Begin.output named c.in-Ready-Ok.answer)
          (c.take.ensures.value
          ∙ named_answered g.A.Begin.named c.args.self.now.stage c.poll_stage.new.stage c.args.self.now.named c.poll_stage.new.named c.in-Ready-Ok.field-0 c.in-Ready-Ok.answer c.in-Ready-Ok.field-0-is c.in-Ready-Ok.ensures.names),
    )

pub returns-in-Ready-Err-clause-failed : goal.returns-in-Ready-Err-clause-failed
returns-in-Ready-Err-clause-failed g c =
    (failed_by (facts g.K.PartialEq.eq g.P.Fact.holds) (Accords (g.Q.Asked.gives c.args.self.now.asked) (g.Q.Asked.tests c.args.self.now.asked)) (called {E = g.row.E.Denot} (rules_of c.args.self.now.cache.now) g.A.Begin.start) c.args.self.now.stage c.poll_stage.new.stage c.in-Ready-Err.field-0 c.in-Ready-Err.e c.in-Ready-Err.field-0-is c.in-Ready-Err.ensures.polled).0

pub returns-in-Pending-clause-came : goal.returns-in-Pending-clause-came
returns-in-Pending-clause-came g c =
    c.in-Pending.ensures.polled.0

pub returns-in-Ready-Ok-clause-suits : goal.returns-in-Ready-Ok-clause-suits
returns-in-Ready-Ok-clause-suits g c =
    λ suits. subst (λ s. Suits g.K.PartialEq.eq g.A.Begin.start s) (sym (answered_by (facts g.K.PartialEq.eq g.P.Fact.holds) (Accords (g.Q.Asked.gives c.args.self.now.asked) (g.Q.Asked.tests c.args.self.now.asked)) (called {E = g.row.E.Denot} (rules_of c.args.self.now.cache.now) g.A.Begin.start) c.args.self.now.stage c.poll_stage.new.stage c.in-Ready-Ok.field-0 c.in-Ready-Ok.answer c.in-Ready-Ok.field-0-is c.in-Ready-Ok.ensures.polled).1) tt

pub returns-in-Ready-Err-clause-suits : goal.returns-in-Ready-Err-clause-suits
returns-in-Ready-Err-clause-suits g c =
    suits_on (facts g.K.PartialEq.eq g.P.Fact.holds) c.shapes_fit.ensures.fits (Accords (g.Q.Asked.gives c.args.self.now.asked) (g.Q.Asked.tests c.args.self.now.asked)) (rules_of c.args.self.now.cache.now) g.A.Begin.start c.args.self.now.stage c.poll_stage.new.stage
    (failed_by (facts g.K.PartialEq.eq g.P.Fact.holds) (Accords (g.Q.Asked.gives c.args.self.now.asked) (g.Q.Asked.tests c.args.self.now.asked)) (called {E = g.row.E.Denot} (rules_of c.args.self.now.cache.now) g.A.Begin.start) c.args.self.now.stage c.poll_stage.new.stage c.in-Ready-Err.field-0 c.in-Ready-Err.e c.in-Ready-Err.field-0-is c.in-Ready-Err.ensures.polled).0

pub returns-in-Pending-clause-suits : goal.returns-in-Pending-clause-suits
returns-in-Pending-clause-suits g c =
    suits_on (facts g.K.PartialEq.eq g.P.Fact.holds) c.shapes_fit.ensures.fits (Accords (g.Q.Asked.gives c.args.self.now.asked) (g.Q.Asked.tests c.args.self.now.asked)) (rules_of c.args.self.now.cache.now) g.A.Begin.start c.args.self.now.stage c.poll_stage.new.stage c.in-Pending.ensures.polled.0

pub returns-in-Pending-clause-names : goal.returns-in-Pending-clause-names
returns-in-Pending-clause-names g c =
    c.in-Pending.ensures.names

pub returns-in-Ready-Err-clause-names_on : goal.returns-in-Ready-Err-clause-names_on
returns-in-Ready-Err-clause-names_on g c =
    named_failed g.A.Begin.named c.args.self.now.stage c.poll_stage.new.stage c.args.self.now.named c.poll_stage.new.named c.in-Ready-Err.field-0 c.in-Ready-Err.e c.in-Ready-Err.field-0-is c.in-Ready-Err.ensures.names

pub returns-in-Pending-clause-tells : goal.returns-in-Pending-clause-tells
returns-in-Pending-clause-tells g c =
    tells_on (facts g.K.PartialEq.eq g.P.Fact.holds) (Accords (g.Q.Asked.gives c.args.self.now.asked) (g.Q.Asked.tests c.args.self.now.asked)) (g.Q.Asked.gives c.poll_stage.new.asked) (g.Q.Asked.gives c.args.self.now.asked) c.poll_stage.ensures.asked.same (accords_told (g.Q.Asked.gives c.args.self.now.asked) (g.Q.Asked.tests c.args.self.now.asked)) (called {E = g.row.E.Denot} (rules_of c.args.self.now.cache.now) g.A.Begin.start) g.A.Begin.output c.args.self.now.stage c.poll_stage.new.stage c.in-Pending.ensures.polled.0 c.requires.tells

pub returns-in-Ready-Err-clause-tells : goal.returns-in-Ready-Err-clause-tells
returns-in-Ready-Err-clause-tells g c =
    tells_on (facts g.K.PartialEq.eq g.P.Fact.holds) (Accords (g.Q.Asked.gives c.args.self.now.asked) (g.Q.Asked.tests c.args.self.now.asked)) (g.Q.Asked.gives c.poll_stage.new.asked) (g.Q.Asked.gives c.args.self.now.asked) c.poll_stage.ensures.asked.same (accords_told (g.Q.Asked.gives c.args.self.now.asked) (g.Q.Asked.tests c.args.self.now.asked)) (called {E = g.row.E.Denot} (rules_of c.args.self.now.cache.now) g.A.Begin.start) g.A.Begin.output c.args.self.now.stage c.poll_stage.new.stage
    (failed_by (facts g.K.PartialEq.eq g.P.Fact.holds) (Accords (g.Q.Asked.gives c.args.self.now.asked) (g.Q.Asked.tests c.args.self.now.asked)) (called {E = g.row.E.Denot} (rules_of c.args.self.now.cache.now) g.A.Begin.start) c.args.self.now.stage c.poll_stage.new.stage c.in-Ready-Err.field-0 c.in-Ready-Err.e c.in-Ready-Err.field-0-is c.in-Ready-Err.ensures.polled).0 c.requires.tells

pub returns-in-Ready-Ok-clause-tells : goal.returns-in-Ready-Ok-clause-tells
returns-in-Ready-Ok-clause-tells g c =
    tells_over g.K.PartialEq.eq (g.Q.Asked.gives c.poll_stage.new.asked) (called {E = g.row.E.Denot} (rules_of c.args.self.now.cache.now) g.A.Begin.start) g.A.Begin.output c.poll_stage.new.stage (answered_by (facts g.K.PartialEq.eq g.P.Fact.holds) (Accords (g.Q.Asked.gives c.args.self.now.asked) (g.Q.Asked.tests c.args.self.now.asked)) (called {E = g.row.E.Denot} (rules_of c.args.self.now.cache.now) g.A.Begin.start) c.args.self.now.stage c.poll_stage.new.stage c.in-Ready-Ok.field-0 c.in-Ready-Ok.answer c.in-Ready-Ok.field-0-is c.in-Ready-Ok.ensures.polled).1

pub output-requires : goal.output-requires
output-requires g c =
    let such = Accords (g.Q.Asked.gives c.args.self.now.asked) (g.Q.Asked.tests c.args.self.now.asked) in
    let begins = called {E = g.row.E.Denot} (rules_of c.args.self.now.cache.now) g.A.Begin.start in
    c.requires.tells c.take.result c.in-Ready-Ok.answer
    (answers_plain (facts g.K.PartialEq.eq g.P.Fact.holds) (ToldSuch (g.Q.Asked.gives c.args.self.now.asked)) begins c.args.self.now.stage c.in-Ready-Ok.answer
    (answers_weaker (facts g.K.PartialEq.eq g.P.Fact.holds) such (ToldSuch (g.Q.Asked.gives c.args.self.now.asked)) (accords_told (g.Q.Asked.gives c.args.self.now.asked) (g.Q.Asked.tests c.args.self.now.asked)) begins c.args.self.now.stage c.in-Ready-Ok.answer
    (answered_by (facts g.K.PartialEq.eq g.P.Fact.holds) (Accords (g.Q.Asked.gives c.args.self.now.asked) (g.Q.Asked.tests c.args.self.now.asked)) (called {E = g.row.E.Denot} (rules_of c.args.self.now.cache.now) g.A.Begin.start) c.args.self.now.stage c.poll_stage.new.stage c.in-Ready-Ok.field-0 c.in-Ready-Ok.answer c.in-Ready-Ok.field-0-is c.in-Ready-Ok.ensures.polled).0))

pub poll_stage-requires-clause-may : goal.poll_stage-requires-clause-may
poll_stage-requires-clause-may g c =
    c.requires.may

pub poll_stage-requires-clause-so : goal.poll_stage-requires-clause-so
poll_stage-requires-clause-so g c =
    c.requires.so

pub returns-in-Ready-Ok-clause-over : goal.returns-in-Ready-Ok-clause-over
returns-in-Ready-Ok-clause-over g c =
    (answered_by (facts g.K.PartialEq.eq g.P.Fact.holds) (Accords (g.Q.Asked.gives c.args.self.now.asked) (g.Q.Asked.tests c.args.self.now.asked)) (called {E = g.row.E.Denot} (rules_of c.args.self.now.cache.now) g.A.Begin.start) c.args.self.now.stage c.poll_stage.new.stage c.in-Ready-Ok.field-0 c.in-Ready-Ok.answer c.in-Ready-Ok.field-0-is c.in-Ready-Ok.ensures.polled).1

pub returns-in-Ready-Err-clause-spent : goal.returns-in-Ready-Err-clause-spent
returns-in-Ready-Err-clause-spent g c =
    (failed_by (facts g.K.PartialEq.eq g.P.Fact.holds) (Accords (g.Q.Asked.gives c.args.self.now.asked) (g.Q.Asked.tests c.args.self.now.asked)) (called {E = g.row.E.Denot} (rules_of c.args.self.now.cache.now) g.A.Begin.start) c.args.self.now.stage c.poll_stage.new.stage c.in-Ready-Err.field-0 c.in-Ready-Err.e c.in-Ready-Err.field-0-is c.in-Ready-Err.ensures.polled).2

pub returns-in-Ready-Err-clause-again : goal.returns-in-Ready-Err-clause-again
returns-in-Ready-Err-clause-again g c =
    (failed_by (facts g.K.PartialEq.eq g.P.Fact.holds) (Accords (g.Q.Asked.gives c.args.self.now.asked) (g.Q.Asked.tests c.args.self.now.asked)) (called {E = g.row.E.Denot} (rules_of c.args.self.now.cache.now) g.A.Begin.start) c.args.self.now.stage c.poll_stage.new.stage c.in-Ready-Err.field-0 c.in-Ready-Err.e c.in-Ready-Err.field-0-is c.in-Ready-Err.ensures.polled).1

pub returns-in-Pending-clause-cause : goal.returns-in-Pending-clause-cause
returns-in-Pending-clause-cause g c =
    c.in-Pending.ensures.cause

pub returns-in-Pending-clause-pending : goal.returns-in-Pending-clause-pending
returns-in-Pending-clause-pending g c =
    c.in-Pending.ensures.polled.1

pub returns-in-Pending-clause-armed : goal.returns-in-Pending-clause-armed
returns-in-Pending-clause-armed g c =
    c.in-Pending.ensures.context.armed

pub returns-in-Ready-Ok-clause-asks : goal.returns-in-Ready-Ok-clause-asks
returns-in-Ready-Ok-clause-asks g c =
    c.poll_stage.ensures.asked.asks

pub returns-in-Ready-Ok-clause-same : goal.returns-in-Ready-Ok-clause-same
returns-in-Ready-Ok-clause-same g c =
    c.poll_stage.ensures.asked.same

pub returns-in-Ready-Ok-clause-tested : goal.returns-in-Ready-Ok-clause-tested
returns-in-Ready-Ok-clause-tested g c =
    c.poll_stage.ensures.asked.tested

pub returns-in-Ready-Ok-clause-kept : goal.returns-in-Ready-Ok-clause-kept
returns-in-Ready-Ok-clause-kept g c =
    c.poll_stage.ensures.context.kept

pub returns-in-Ready-Err-clause-asks : goal.returns-in-Ready-Err-clause-asks
returns-in-Ready-Err-clause-asks g c =
    c.poll_stage.ensures.asked.asks

pub returns-in-Ready-Err-clause-same : goal.returns-in-Ready-Err-clause-same
returns-in-Ready-Err-clause-same g c =
    c.poll_stage.ensures.asked.same

pub returns-in-Ready-Err-clause-tested : goal.returns-in-Ready-Err-clause-tested
returns-in-Ready-Err-clause-tested g c =
    c.poll_stage.ensures.asked.tested

pub returns-in-Ready-Err-clause-kept : goal.returns-in-Ready-Err-clause-kept
returns-in-Ready-Err-clause-kept g c =
    c.poll_stage.ensures.context.kept

pub returns-in-Pending-clause-asks : goal.returns-in-Pending-clause-asks
returns-in-Pending-clause-asks g c =
    c.poll_stage.ensures.asked.asks

pub returns-in-Pending-clause-same : goal.returns-in-Pending-clause-same
returns-in-Pending-clause-same g c =
    c.poll_stage.ensures.asked.same

pub returns-in-Pending-clause-tested : goal.returns-in-Pending-clause-tested
returns-in-Pending-clause-tested g c =
    c.poll_stage.ensures.asked.tested

pub returns-in-Pending-clause-kept : goal.returns-in-Pending-clause-kept
returns-in-Pending-clause-kept g c =
    c.poll_stage.ensures.context.kept

-- ---- what it stores, tells and answers

pub returns-in-Ready-Ok-clause-so : goal.returns-in-Ready-Ok-clause-so
returns-in-Ready-Ok-clause-so g c =
    over_stage (facts g.K.PartialEq.eq g.P.Fact.holds) _ (Accords (g.Q.Asked.gives c.poll_stage.new.asked) (g.Q.Asked.tests c.poll_stage.new.asked)) (called {E = g.row.E.Denot} (rules_of c.args.self.now.cache.now) g.A.Begin.start) c.poll_stage.new.stage (answered_by (facts g.K.PartialEq.eq g.P.Fact.holds) (Accords (g.Q.Asked.gives c.args.self.now.asked) (g.Q.Asked.tests c.args.self.now.asked)) (called {E = g.row.E.Denot} (rules_of c.args.self.now.cache.now) g.A.Begin.start) c.args.self.now.stage c.poll_stage.new.stage c.in-Ready-Ok.field-0 c.in-Ready-Ok.answer c.in-Ready-Ok.field-0-is c.in-Ready-Ok.ensures.polled).1

pub returns-in-Pending-clause-so : goal.returns-in-Pending-clause-so
returns-in-Pending-clause-so g c =
    meets_since (facts g.K.PartialEq.eq g.P.Fact.holds) (Accords (g.Q.Asked.gives c.args.self.now.asked) (g.Q.Asked.tests c.args.self.now.asked)) (called {E = g.row.E.Denot} (rules_of c.args.self.now.cache.now) g.A.Begin.start) g.A.Begin.named (Accords (g.Q.Asked.gives c.poll_stage.new.asked) (g.Q.Asked.tests c.poll_stage.new.asked))
    (accords_weaker (g.Q.Asked.gives c.poll_stage.new.asked) (g.Q.Asked.gives c.args.self.now.asked) (g.Q.Asked.tests c.poll_stage.new.asked) (g.Q.Asked.tests c.args.self.now.asked) c.poll_stage.ensures.asked.same c.poll_stage.ensures.asked.tested)
    c.args.self.now.stage c.poll_stage.new.stage c.args.self.now.named c.poll_stage.new.named c.in-Pending.ensures.polled.0 c.in-Pending.ensures.names c.requires.so

pub returns-in-Ready-Err-clause-so : goal.returns-in-Ready-Err-clause-so
returns-in-Ready-Err-clause-so g c =
    meets_since (facts g.K.PartialEq.eq g.P.Fact.holds) (Accords (g.Q.Asked.gives c.args.self.now.asked) (g.Q.Asked.tests c.args.self.now.asked)) (called {E = g.row.E.Denot} (rules_of c.args.self.now.cache.now) g.A.Begin.start) g.A.Begin.named (Accords (g.Q.Asked.gives c.poll_stage.new.asked) (g.Q.Asked.tests c.poll_stage.new.asked))
    (accords_weaker (g.Q.Asked.gives c.poll_stage.new.asked) (g.Q.Asked.gives c.args.self.now.asked) (g.Q.Asked.tests c.poll_stage.new.asked) (g.Q.Asked.tests c.args.self.now.asked) c.poll_stage.ensures.asked.same c.poll_stage.ensures.asked.tested)
    c.args.self.now.stage c.poll_stage.new.stage c.args.self.now.named c.poll_stage.new.named
    (failed_by (facts g.K.PartialEq.eq g.P.Fact.holds) (Accords (g.Q.Asked.gives c.args.self.now.asked) (g.Q.Asked.tests c.args.self.now.asked)) (called {E = g.row.E.Denot} (rules_of c.args.self.now.cache.now) g.A.Begin.start) c.args.self.now.stage c.poll_stage.new.stage c.in-Ready-Err.field-0 c.in-Ready-Err.e c.in-Ready-Err.field-0-is c.in-Ready-Err.ensures.polled).0
    (named_failed g.A.Begin.named c.args.self.now.stage c.poll_stage.new.stage c.args.self.now.named c.poll_stage.new.named c.in-Ready-Err.field-0 c.in-Ready-Err.e c.in-Ready-Err.field-0-is c.in-Ready-Err.ensures.names)
    c.requires.so
