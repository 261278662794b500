-- A state whose call was begun goes on as its flow does.
use Rattle.moka_kept.specs.Facts.{facts}
use Rattle.moka_cache.specs.Asked.{Accords}
use Rattle.moka_cache.proofs.Advancing.{answers_at, came_at, failed_at, named_at, names_at, over_at, rests_at, runs_at, unasked_at, unspent}
use Rattle.moka_cache.proofs.cache.Cache.advance.Goals as goal

pub go_on-requires-clause-rests : goal.go_on-requires-clause-rests
go_on-requires-clause-rests g c = rests_at c.args.stage.now c.in-Running.flow c.in-Running.is c.requires.may

pub go_on-requires-clause-so : goal.go_on-requires-clause-so
go_on-requires-clause-so g c = runs_at c.args.stage.now c.in-Running.flow c.in-Running.is (facts g.K.PartialEq.eq g.P.Fact.holds) c.args.key.now (Accords (g.Q.Asked.gives c.args.asked.now) (g.Q.Asked.tests c.args.asked.now)) c.requires.so

pub go_on-requires-clause-asks : goal.go_on-requires-clause-asks
go_on-requires-clause-asks g c = c.requires.asks

-- ---- it has answered

pub end-requires : goal.end-requires
end-requires g c =
    over_at (facts g.K.PartialEq.eq g.P.Fact.holds) (Accords (g.Q.Asked.gives c.args.asked.now) (g.Q.Asked.tests c.args.asked.now)) c.in-Running.flow c.go_on.new.flow c.in-Ready-Ok.field-0 c.in-Ready-Ok.answer
    c.in-Ready-Ok.field-0-is c.in-Ready-Ok.ensures.polled

pub returns-in-Ready-Ok-clause-answers : goal.returns-in-Ready-Ok-clause-answers
returns-in-Ready-Ok-clause-answers g c =
    answers_at (facts g.K.PartialEq.eq g.P.Fact.holds) (Accords (g.Q.Asked.gives c.args.asked.now) (g.Q.Asked.tests c.args.asked.now)) c.args.stage.now c.in-Running.flow c.in-Running.is c.go_on.new.flow
    c.in-Ready-Ok.field-0 c.in-Ready-Ok.answer c.in-Ready-Ok.field-0-is c.in-Ready-Ok.ensures.polled

pub returns-in-Ready-Ok-clause-unasked : goal.returns-in-Ready-Ok-clause-unasked
returns-in-Ready-Ok-clause-unasked g c =
    unasked_at (facts g.K.PartialEq.eq g.P.Fact.holds) (Accords (g.Q.Asked.gives c.args.asked.now) (g.Q.Asked.tests c.args.asked.now)) c.args.stage.now c.in-Running.flow c.in-Running.is c.args.asked.now c.go_on.new.asked
    c.go_on.ensures.unasked

pub returns-in-Ready-Ok-clause-over : goal.returns-in-Ready-Ok-clause-over
returns-in-Ready-Ok-clause-over g c = c.end.ensures

pub returns-in-Ready-Ok-clause-begun : goal.returns-in-Ready-Ok-clause-begun
returns-in-Ready-Ok-clause-begun g c = named_at c.args.stage.now c.in-Running.flow c.in-Running.is

pub returns-in-Ready-Ok-clause-asked : goal.returns-in-Ready-Ok-clause-asked
returns-in-Ready-Ok-clause-asked g c = c.go_on.ensures.asked

pub returns-in-Ready-Ok-clause-context : goal.returns-in-Ready-Ok-clause-context
returns-in-Ready-Ok-clause-context g c = record { kept = c.go_on.ensures.context.kept; armed = tt }

-- ---- it found no memory

pub returns-in-Ready-Err-clause-failed : goal.returns-in-Ready-Err-clause-failed
returns-in-Ready-Err-clause-failed g c =
    let such = Accords (g.Q.Asked.gives c.args.asked.now) (g.Q.Asked.tests c.args.asked.now) in
    came_at (facts g.K.PartialEq.eq g.P.Fact.holds) such c.args.stage.now c.in-Running.flow c.in-Running.is c.go_on.new.flow
    (failed_at (facts g.K.PartialEq.eq g.P.Fact.holds) such c.in-Running.flow c.go_on.new.flow c.in-Ready-Err.field-0 c.in-Ready-Err.e c.in-Ready-Err.field-0-is c.in-Ready-Err.ensures.polled).1

pub returns-in-Ready-Err-clause-unasked : goal.returns-in-Ready-Err-clause-unasked
returns-in-Ready-Err-clause-unasked g c =
    unasked_at (facts g.K.PartialEq.eq g.P.Fact.holds) (Accords (g.Q.Asked.gives c.args.asked.now) (g.Q.Asked.tests c.args.asked.now)) c.args.stage.now c.in-Running.flow c.in-Running.is c.args.asked.now c.go_on.new.asked
    c.go_on.ensures.unasked

pub returns-in-Ready-Err-clause-spent : goal.returns-in-Ready-Err-clause-spent
returns-in-Ready-Err-clause-spent g c =
    unspent c.in-Ready-Err.e c.go_on.new.flow
    (failed_at (facts g.K.PartialEq.eq g.P.Fact.holds) (Accords (g.Q.Asked.gives c.args.asked.now) (g.Q.Asked.tests c.args.asked.now)) c.in-Running.flow c.go_on.new.flow c.in-Ready-Err.field-0 c.in-Ready-Err.e
    c.in-Ready-Err.field-0-is c.in-Ready-Err.ensures.polled).0

pub returns-in-Ready-Err-clause-again : goal.returns-in-Ready-Err-clause-again
returns-in-Ready-Err-clause-again g c =
    (failed_at (facts g.K.PartialEq.eq g.P.Fact.holds) (Accords (g.Q.Asked.gives c.args.asked.now) (g.Q.Asked.tests c.args.asked.now)) c.in-Running.flow c.go_on.new.flow c.in-Ready-Err.field-0 c.in-Ready-Err.e
    c.in-Ready-Err.field-0-is c.in-Ready-Err.ensures.polled).1.rests

pub returns-in-Ready-Err-clause-names_on : goal.returns-in-Ready-Err-clause-names_on
returns-in-Ready-Err-clause-names_on g c = names_at c.args.stage.now c.in-Running.flow c.in-Running.is c.go_on.new.flow

pub returns-in-Ready-Err-clause-asked : goal.returns-in-Ready-Err-clause-asked
returns-in-Ready-Err-clause-asked g c = c.go_on.ensures.asked

pub returns-in-Ready-Err-clause-context : goal.returns-in-Ready-Err-clause-context
returns-in-Ready-Err-clause-context g c = record { kept = c.go_on.ensures.context.kept; armed = tt }

-- ---- it isn't ready

pub returns-in-Pending-clause-came : goal.returns-in-Pending-clause-came
returns-in-Pending-clause-came g c =
    came_at (facts g.K.PartialEq.eq g.P.Fact.holds) (Accords (g.Q.Asked.gives c.args.asked.now) (g.Q.Asked.tests c.args.asked.now)) c.args.stage.now c.in-Running.flow c.in-Running.is c.go_on.new.flow
    c.in-Pending.ensures.polled

pub returns-in-Pending-clause-cause : goal.returns-in-Pending-clause-cause
returns-in-Pending-clause-cause g c = c.in-Pending.ensures.cause

pub returns-in-Pending-clause-unasked : goal.returns-in-Pending-clause-unasked
returns-in-Pending-clause-unasked g c =
    unasked_at (facts g.K.PartialEq.eq g.P.Fact.holds) (Accords (g.Q.Asked.gives c.args.asked.now) (g.Q.Asked.tests c.args.asked.now)) c.args.stage.now c.in-Running.flow c.in-Running.is c.args.asked.now c.go_on.new.asked
    c.go_on.ensures.unasked

pub returns-in-Pending-clause-pending : goal.returns-in-Pending-clause-pending
returns-in-Pending-clause-pending g c = c.in-Pending.ensures.polled.rests

pub returns-in-Pending-clause-names : goal.returns-in-Pending-clause-names
returns-in-Pending-clause-names g c = names_at c.args.stage.now c.in-Running.flow c.in-Running.is c.go_on.new.flow

pub returns-in-Pending-clause-asked : goal.returns-in-Pending-clause-asked
returns-in-Pending-clause-asked g c = c.go_on.ensures.asked

pub returns-in-Pending-clause-context : goal.returns-in-Pending-clause-context
returns-in-Pending-clause-context g c = c.in-Pending.ensures.context
