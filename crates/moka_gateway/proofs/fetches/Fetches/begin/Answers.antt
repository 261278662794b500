-- The call is polled from its beginning.
use Rattle.std.proofs.Common.{ap, is_some, refl, ◌∙◌}
use Rattle.moka_hist.specs.declared.events.Start.TheVariants as start
use Rattle.moka_small.specs.Small.{started}
use Rattle.moka_gateway.specs.Fetches.{is_of_request}
use Rattle.moka_gateway.proofs.Fetching.{began, kind_of, live_at}
use Rattle.moka_gateway.proofs.fetches.Fetches.begin.Goals as goal

pub start-requires : goal.start-requires
start-requires c = record {
  plain = refl;
  usable = λ unspent. (c.requires.1.small, c.requires.1.polled, tt);
}

pub poll-requires : goal.poll-requires
poll-requires c =
    let f = c.requires.1 in
    let started_so = c.in_ok-number.ensures.started f.small f.polled in
    record {
      live = λ unspent. (
        started f.small (start.Try c.args.key),
        started_so.1,
        ap is_some (live_at f.small (start.Try c.args.key) c.in_ok-number.number started_so.0),
      );
    }

pub returns-clause-begun : goal.returns-clause-begun
returns-clause-begun c = λ m p.
    let started_so = c.in_ok-number.ensures.started m p in
    began c.start.new.self c.poll.new.self m c.args.key c.in_ok-number.number c.in_ok-outcome.outcome started_so.0 started_so.1
    c.in_ok-outcome.ensures.polled

pub returns-clause-kind : goal.returns-clause-kind
returns-clause-kind c =
    let f = c.requires.1 in
    let started_so = c.in_ok-number.ensures.started f.small f.polled in
    let it = began c.start.new.self c.poll.new.self f.small c.args.key c.in_ok-number.number c.in_ok-outcome.outcome started_so.0 started_so.1
    c.in_ok-outcome.ensures.polled in
    ap is_of_request it.1 ∙ kind_of f.small c.args.key
