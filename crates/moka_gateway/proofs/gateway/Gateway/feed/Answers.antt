-- The call comes to its end, or memory was wanting.
use Rattle.std.proofs.Common.{refl}
use Rattle.moka_collapsing.specs.Reference.{feeds}
use Rattle.moka_collapsing.specs.Runs.{Feed}
use Rattle.moka_gateway.proofs.After.{after_one}
use Rattle.moka_gateway.proofs.Parts.{carried, had_before, on_err, spent_usable, stays_usable, still_spent}
use Rattle.moka_gateway.proofs.gateway.Gateway.feed.Goals as goal

pub feed_open-requires : goal.feed_open-requires
feed_open-requires c = had_before c.args.self.now c.begin.new.self c.in_ok-begin.ensures.ok c.requires.usable

pub returns-clause-answers : goal.returns-clause-answers
returns-clause-answers c =
    carried c.args.self.now c.begin.new.self c.in_ok-begin.ensures.ok c.in_ok-outs.outs (λ r. feeds r c.args.client c.args.bytes.now) c.feed_open.new.self _
    c.in_ok-outs.ensures.answers refl

pub returns-clause-usable : goal.returns-clause-usable
returns-clause-usable c =
    stays_usable c.args.self.now c.begin.new.self c.in_ok-begin.ensures.ok c.in_ok-outs.outs (λ r. feeds r c.args.client c.args.bytes.now) c.feed_open.new.self _
    c.in_ok-outs.ensures.answers refl c.requires.usable

pub returns-in_err-begin-clause-usable : goal.returns-in_err-begin-clause-usable
returns-in_err-begin-clause-usable c = spent_usable _ c.in_err-begin.ensures.err

pub returns-in_err-outs-clause-usable : goal.returns-in_err-outs-clause-usable
returns-in_err-outs-clause-usable c = spent_usable _ (still_spent c.args.self.now c.begin.new.self c.in_ok-begin.ensures.ok c.feed_open.new.self c.feed_open.ensures.spent)

pub returns-in_err-outs-clause-spent : goal.returns-in_err-outs-clause-spent
returns-in_err-outs-clause-spent c =
    on_err c.from_residual-in_err-outs.result (still_spent c.args.self.now c.begin.new.self c.in_ok-begin.ensures.ok c.feed_open.new.self c.feed_open.ensures.spent)

pub returns-clause-lawful : goal.returns-clause-lawful
returns-clause-lawful c = λ g it is at. c.feeds_are_lawful.ensures g c.args.client it c.args.bytes.now

pub returns-in_err-begin-clause-lawful : goal.returns-in_err-begin-clause-lawful
returns-in_err-begin-clause-lawful c = λ g it is at. c.feeds_are_lawful.ensures g c.args.client it c.args.bytes.now

pub returns-in_err-outs-clause-lawful : goal.returns-in_err-outs-clause-lawful
returns-in_err-outs-clause-lawful c = λ g it is at. c.feeds_are_lawful.ensures g c.args.client it c.args.bytes.now

pub returns-clause-after : goal.returns-clause-after
returns-clause-after c = after_one c.runs_are_served.ensures c.args.self.now _ (Feed c.args.client c.args.bytes.now) (λ g is.
    (carried c.args.self.now c.begin.new.self c.in_ok-begin.ensures.ok c.in_ok-outs.outs (λ r. feeds r c.args.client c.args.bytes.now) c.feed_open.new.self _
    c.in_ok-outs.ensures.answers refl g is).1)
