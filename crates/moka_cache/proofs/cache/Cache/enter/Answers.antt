-- The call is left as its first hold leaves it, and what follows that.
use Rattle.std.proofs.Common.{◌<◌, ℕ, Some, inl, refl, sym, subst}
use Rattle.moka_hist.specs.Next.{answers}
use Rattle.moka_hist.specs.Run.{fresh_call}
use Rattle.moka_hist.specs.State.{Call}
use Rattle.moka_kept.specs.Facts.{facts}
use Rattle.moka_kept.specs.Meets.{CallMeets}
use Rattle.moka_kept.specs.Paths.{EndedWith}
use Rattle.moka_kept.specs.Taking.{NoAnswer}
use Rattle.moka_kept.proofs.Stopping.{meets_less}
use Rattle.moka_kept.proofs.Ways.{ended_weaker}
use Rattle.moka_cache.specs.Asked.{Accords}
use Rattle.moka_cache.specs.Hearing.{Unheard}
use Rattle.moka_cache.specs.Polled.{kept_as}
use Rattle.moka_cache.specs.Settings.{listener_of, rules_of}
use Rattle.moka_cache.specs.Stays.{ContextStays}
use Rattle.moka_cache.proofs.Polling.{GoesFrom, asks_from, first_answered, first_as, first_kept, first_spent, over_polled, pends_as, pends_kept}
use Rattle.moka_cache.proofs.Staying.{asked_still, context_since}
use Rattle.moka_cache.proofs.cache.Cache.enter.Goals as goal

pub begin-requires : goal.begin-requires
begin-requires g c = record {
  so = subst (λ s. (n : ℕ) → CallMeets (facts g.K.PartialEq.eq g.P.Fact.holds) c.args.key.now NoAnswer n (fresh_call {E = g.row.E.Denot} 1 s.guarded.rules c.args.start)) (sym c.deref-shared.ensures)
      (λ n. meets_less (facts g.K.PartialEq.eq g.P.Fact.holds) c.args.key.now NoAnswer (Accords (g.Q.Asked.gives c.args.asked.now) (g.Q.Asked.tests c.args.asked.now)) (λ t none. absurd none) n
      (fresh_call 1 (rules_of c.args.self.now) c.args.start) (c.requires.so n));
}

-- ---- no number was left

pub returns-in-Spent-clause-first : goal.returns-in-Spent-clause-first
returns-in-Spent-clause-first g c =
    first_spent (facts g.K.PartialEq.eq g.P.Fact.holds) (Accords (g.Q.Asked.gives c.args.asked.now) (g.Q.Asked.tests c.args.asked.now)) (fresh_call 1 (rules_of c.args.self.now) c.args.start) c.args.stage.now c.requires.spent

pub returns-in-Spent-clause-unasked : goal.returns-in-Spent-clause-unasked
returns-in-Spent-clause-unasked g c = inl refl

pub returns-in-Spent-clause-asked : goal.returns-in-Spent-clause-asked
returns-in-Spent-clause-asked g c = asked_still g.Q.Asked.can_poll g.Q.Asked.gives g.Q.Asked.tests c.args.asked.now c.requires.asks

pub returns-in-Spent-clause-context : goal.returns-in-Spent-clause-context
returns-in-Spent-clause-context g c = record { kept = c.begin.ensures.kept; armed = tt }

-- ---- it has answered

pub returns-in-Answers-clause-first : goal.returns-in-Answers-clause-first
returns-in-Answers-clause-first g c =
    let f = facts g.K.PartialEq.eq g.P.Fact.holds in
    let such = Accords (g.Q.Asked.gives c.args.asked.now) (g.Q.Asked.tests c.args.asked.now) in
    let call : Call g.row.K.Denot g.row.V.Denot g.row.E.Denot = fresh_call 1 (rules_of c.args.self.now) c.args.start in
    let by = subst (λ s. (n : ℕ) × (0 < n) × EndedWith f NoAnswer n (fresh_call 1 s.guarded.rules c.args.start) (answers c.in-Answers.answer)) c.deref-shared.ensures c.in-Answers.ensures.begins in
    first_answered f such call c.in-Answers.answer c.put.new.stage c.put.ensures by.0 (ended_weaker f NoAnswer such (λ t none. absurd none) by.0 call (answers c.in-Answers.answer) by.2)

pub returns-in-Answers-clause-unasked : goal.returns-in-Answers-clause-unasked
returns-in-Answers-clause-unasked g c = inl refl

pub returns-in-Answers-clause-asked : goal.returns-in-Answers-clause-asked
returns-in-Answers-clause-asked g c = asked_still g.Q.Asked.can_poll g.Q.Asked.gives g.Q.Asked.tests c.args.asked.now c.requires.asks

pub returns-in-Answers-clause-context : goal.returns-in-Answers-clause-context
returns-in-Answers-clause-context g c = record { kept = c.begin.ensures.kept; armed = tt }

-- ---- it goes on

pub follow-poll-requires-clause-left : goal.follow-poll-requires-clause-left
follow-poll-requires-clause-left g c =
    let f = facts g.K.PartialEq.eq g.P.Fact.holds in
    let such = Accords (g.Q.Asked.gives c.args.asked.now) (g.Q.Asked.tests c.args.asked.now) in
    let by = subst (λ s. GoesFrom f (fresh_call 1 s.guarded.rules c.args.start) c.in-Goes.flow c.in-Goes.stop) c.deref-shared.ensures c.in-Goes.ensures.begins in
    (by.0, by.4, subst (λ (x : Call g.row.K.Denot g.row.V.Denot g.row.E.Denot). CallMeets f c.args.key.now such by.0.call x) (sym by.1) (c.requires.so by.0.call))

pub follow-poll-requires-clause-waits : goal.follow-poll-requires-clause-waits
follow-poll-requires-clause-waits g c = c.in-Goes.ensures.armed

pub follow-poll-requires-clause-so : goal.follow-poll-requires-clause-so
follow-poll-requires-clause-so g c = c.in-Goes.ensures.so

pub follow-poll-requires-clause-asks : goal.follow-poll-requires-clause-asks
follow-poll-requires-clause-asks g c = c.requires.asks

pub keep-requires-clause-spent : goal.keep-requires-clause-spent
keep-requires-clause-spent g c = c.requires.spent

pub keep-requires-clause-over : goal.keep-requires-clause-over
keep-requires-clause-over g c =
    let f = facts g.K.PartialEq.eq g.P.Fact.holds in
    let such = Accords (g.Q.Asked.gives c.args.asked.now) (g.Q.Asked.tests c.args.asked.now) in
    let by = subst (λ s. GoesFrom f (fresh_call 1 s.guarded.rules c.args.start) c.in-Goes.flow c.in-Goes.stop) c.deref-shared.ensures c.in-Goes.ensures.begins in
    over_polled f such by.0 c.follow-poll.new.flow c.follow-poll.result (c.follow-poll.ensures.polled by.0 by.4)

pub returns-in-Goes-clause-first : goal.returns-in-Goes-clause-first
returns-in-Goes-clause-first g c =
    let f = facts g.K.PartialEq.eq g.P.Fact.holds in
    let such = Accords (g.Q.Asked.gives c.args.asked.now) (g.Q.Asked.tests c.args.asked.now) in
    let call : Call g.row.K.Denot g.row.V.Denot g.row.E.Denot = fresh_call 1 (rules_of c.args.self.now) c.args.start in
    let by = subst (λ s. GoesFrom f (fresh_call 1 s.guarded.rules c.args.start) c.in-Goes.flow c.in-Goes.stop) c.deref-shared.ensures c.in-Goes.ensures.begins in
    first_as f such call c.follow-poll.result c.keep.result (kept_as c.follow-poll.new.flow c.follow-poll.result) c.keep.new.stage c.keep.ensures.poll c.keep.ensures.stage
    (first_kept g.row.A.Denot f such call by.0 c.follow-poll.new.flow by.1 c.follow-poll.result (c.follow-poll.ensures.polled by.0 by.4))

pub returns-in-Goes-clause-unasked : goal.returns-in-Goes-clause-unasked
returns-in-Goes-clause-unasked g c =
    let f = facts g.K.PartialEq.eq g.P.Fact.holds in
    let such = Accords (g.Q.Asked.gives c.args.asked.now) (g.Q.Asked.tests c.args.asked.now) in
    let by = subst (λ s. GoesFrom f (fresh_call 1 s.guarded.rules c.args.start) c.in-Goes.flow c.in-Goes.stop) c.deref-shared.ensures c.in-Goes.ensures.begins in
    asks_from f such by.0 (fresh_call 1 (rules_of c.args.self.now) c.args.start) by.1 _ (c.follow-poll.ensures.unasked by.0 by.4)

pub returns-in-Goes-clause-cause : goal.returns-in-Goes-clause-cause
returns-in-Goes-clause-cause g c =
    let unheard = Unheard g.L.Listener.pends (listener_of c.args.self.now) in
    pends_as g.K.PartialEq.eq g.Q.Asked.pends unheard c.follow-poll.new.asked c.follow-poll.result c.keep.result (kept_as c.follow-poll.new.flow c.follow-poll.result) c.keep.new.stage c.keep.ensures.poll c.keep.ensures.stage
    (pends_kept g.row.A.Denot g.K.PartialEq.eq g.Q.Asked.pends unheard c.follow-poll.new.asked c.follow-poll.new.flow c.follow-poll.result c.follow-poll.ensures.cause)

pub returns-in-Goes-clause-asked : goal.returns-in-Goes-clause-asked
returns-in-Goes-clause-asked g c = c.follow-poll.ensures.asked

pub returns-in-Goes-clause-context : goal.returns-in-Goes-clause-context
returns-in-Goes-clause-context g c =
    subst (λ p. ContextStays c.args.cx.now c.follow-poll.new.cx (Some p)) (sym c.keep.ensures.poll)
    (context_since c.args.cx.now c.begin.new.cx c.follow-poll.new.cx (Some c.follow-poll.result) c.begin.ensures.kept c.follow-poll.ensures.context)
