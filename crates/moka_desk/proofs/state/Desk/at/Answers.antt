use Rattle.std.proofs.Common.{◌≡◌, ◌≤◌, false, nat_lt, if◌then◌else◌, arith, sym, refl, subst}
use Rattle.std.proofs.lemmas.Bool.{le-ltb}
use Rattle.moka_desk.specs.StandsFor.{StandsFor}
use Rattle.moka_desk.proofs.Timely.{timely_on}
use Rattle.moka_desk.proofs.state.Desk.at.Goals as goal

pub returns-clause-makes : goal.returns-clause-makes
returns-clause-makes g c = λ w h.
    let self = c.args.self.now in
    let moment = c.args.moment in
    let forward : self.clock ≤ moment = omega arith in
    let on : w.clock ≤ moment = subst (λ n. n ≤ moment) h.clock forward in
    let later : nat_lt moment w.clock ≡ false = le-ltb moment w.clock on in
    subst (λ b. StandsFor g.K.PartialEq.eq (record self { clock = moment }) (if b then w else record w { clock = moment })) (sym later) (record {
      rules = h.rules;
      clock = refl;
      valid_after = h.valid_after;
      predicates = record {
        registered = h.predicates.registered;
        ids = h.predicates.ids;
        once = h.predicates.once;
        timely = timely_on w.clock moment w.registered on h.predicates.timely;
      };
      accessed = h.accessed;
      turn = h.turn;
      published = h.published;
      last = h.last;
      writes = h.writes;
      loads = h.loads;
      locks = h.locks;
      notices = h.notices;
      asks = h.asks;
      listed = h.listed;
    })
