-- The call stands at its beginning, and is polled from there.
use Rattle.moka_small.specs.Small.{started}
use Rattle.moka_behind.proofs.Running.{begun_live, has_run}
use Rattle.moka_behind.proofs.pairs.run.Goals as goal

pub start-requires : goal.start-requires
start-requires c = record {
  plain = c.requires.plain;
  usable = λ unspent. (c.requires.stands.0, c.requires.stands.1, tt);
}

pub poll-requires : goal.poll-requires
poll-requires c =
    let m = c.requires.stands.0 in
    let began = c.in_ok-call.ensures.started m c.requires.stands.1 in
    record { live = λ unspent. (started m c.args.start, began.1, begun_live m c.args.start c.in_ok-call.call began.0) }

pub returns : goal.returns
returns c = λ m p.
    let began = c.in_ok-call.ensures.started m p in
    has_run c.poll.new.self c.start.new.self m c.args.start c.in_ok-call.call c.in_ok-outcome.outcome began.0 began.1
    c.in_ok-outcome.ensures.polled
