-- The sound world is one whose tests answer so: the desk has none.
use Rattle.std.proofs.Common.{refl}
use Rattle.moka_kept.proofs.ground.Reach.hold_answer.Goals as goal

pub returns-clause-kept : goal.returns-clause-kept
returns-clause-kept g c =
    let kept = c.requires in
    let desk = kept.stands.desk in
    let sound = kept.sound in record {
      world = record kept.world { desk = record kept.world.desk { tests = λ test key value. c.args.replaced } };
      stands = record {
        table = kept.stands.table;
        desk = record {
          rules = desk.rules;
          clock = desk.clock;
          valid_after = desk.valid_after;
          predicates = desk.predicates;
          accessed = desk.accessed;
          turn = desk.turn;
          published = desk.published;
          last = desk.last;
          writes = desk.writes;
          loads = desk.loads;
          locks = desk.locks;
          notices = desk.notices;
          asks = desk.asks;
          listed = desk.listed;
        };
        handed = record { tests = refl; predicates = kept.stands.handed.predicates; ids = kept.stands.handed.ids };
        stay = kept.stands.stay;
      };
      sound = record {
        once = sound.once;
        held_apart = sound.held_apart;
        one_holder = sound.one_holder;
        one_owner = sound.one_owner;
        owns = sound.owns;
        owned = sound.owned;
        one_locker = sound.one_locker;
        locks = sound.locks;
        locked = sound.locked;
        keeps = sound.keeps;
        apart = sound.apart;
        one_id = sound.one_id;
      };
      log = kept.log;
      decided = kept.decided;
      none_begun = kept.none_begun;
      unlisted = kept.unlisted;
      stored = kept.stored;
      ended = kept.ended;
    }
