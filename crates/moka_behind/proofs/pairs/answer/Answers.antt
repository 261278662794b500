-- The call is told, and polled to its end.
use Rattle.std.proofs.Common.{Some}
use Rattle.moka_small.specs.Small.{Was_told, with_stand}
use Rattle.moka_behind.specs.Holding.{load_of}
use Rattle.moka_behind.specs.Looking.{end_of}
use Rattle.moka_behind.proofs.Running.{answered, takes_so, told_live}
use Rattle.moka_behind.proofs.pairs.answer.Goals as goal

pub tell-requires : goal.tell-requires
tell-requires c =
    let key = c.requires.0 in
    let h = c.requires.1.1 in
    record {
      asks = λ unspent. (
        h.small,
        h.stands,
        (load_of key, end_of c.args.found, takes_so c.args.call key h.small c.args.found c.told_of.result h.such c.told_of.ensures),
      );
    }

pub poll-requires : goal.poll-requires
poll-requires c =
    let key = c.requires.0 in
    let h = c.requires.1.1 in
    record {
      live = λ unspent. (
        with_stand h.small c.args.call (Some (Was_told (load_of key) (end_of c.args.found))),
        c.in_ok-tell.ensures.told h.small (load_of key) (end_of c.args.found) h.stands
            (takes_so c.args.call key h.small c.args.found c.told_of.result h.such c.told_of.ensures),
        told_live c.args.call key h.small c.args.found h.such,
      );
    }

pub returns : goal.returns
returns c = λ key ps h.
    answered c.poll.new.self c.tell.new.self c.args.call key h.small h.such ps h.values c.args.found c.in_ok-_end._end
    (c.in_ok-tell.ensures.told h.small (load_of key) (end_of c.args.found) h.stands
    (takes_so c.args.call key h.small c.args.found c.told_of.result h.such c.told_of.ensures))
    c.in_ok-_end.ensures.polled
