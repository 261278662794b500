use Rattle.std.proofs.Common.{◌≡◌, true, List, sym, ap, subst, ◌∙◌}
use Rattle.moka_hist.specs.declared.predicates.Registered.{Registered}
use Rattle.moka_hist.specs.declared.rules.Rules.{Rules}
use Rattle.moka_desk.specs.Predicates.{predicate_part, PredicatesAre}
use Rattle.moka_desk.proofs.FreeIds.{free_of}
use Rattle.moka_desk.proofs.Registrations.{draws_then, drawn_then, none_is_free, one_is_free}
use Rattle.moka_desk.proofs.state.Desk.register.Goals as goal

pub returns-then-is_err-clause-err : goal.returns-then-is_err-clause-err
returns-then-is_err-clause-err g c = λ w h. record {
  rules = h.rules;
  clock = h.clock;
  valid_after = h.valid_after;
  predicates = c.reserve.ensures.same (predicate_part w) h.predicates;
  accessed = h.accessed;
  turn = h.turn;
  published = h.published;
  last = h.last;
  writes = h.writes;
  loads = h.loads;
  locks = h.locks;
  notices = h.notices;
  asks = h.asks;
  listed = h.listed;
}

pub returns-in_default-clause-finds : goal.returns-in_default-clause-finds
returns-in_default-clause-finds g c = λ w h draws.
    let stream = g.G.Ids.stream c.args.ids.now in
    let on : w.rules.closures ≡ true = ap (λ (r : Rules). r.closures) (sym h.rules) ∙ c.if-not-self.false in
    let are = c.reserve.ensures.same (predicate_part w) h.predicates in
    let is = free_of w.registered stream w.ids w.drawn draws 1000 in
    (none_is_free w c.args.test stream w.rules.closures _ _ on is (c.in_default.ensures.free (predicate_part w) are)).0

pub returns-in_default-clause-makes : goal.returns-in_default-clause-makes
returns-in_default-clause-makes g c = λ w h draws.
    let stream = g.G.Ids.stream c.args.ids.now in
    let on : w.rules.closures ≡ true = ap (λ (r : Rules). r.closures) (sym h.rules) ∙ c.if-not-self.false in
    let are = c.reserve.ensures.same (predicate_part w) h.predicates in
    let is = free_of w.registered stream w.ids w.drawn draws 1000 in
    let same = (none_is_free w c.args.test stream w.rules.closures _ _ on is (c.in_default.ensures.free (predicate_part w) are)).1 in
    record {
      rules = h.rules;
      clock = h.clock;
      valid_after = h.valid_after;
      predicates = subst (λ (rs : List Registered). PredicatesAre c.reserve.new.self (record { clock = w.clock; registered = rs })) same are;
      accessed = h.accessed;
      turn = h.turn;
      published = h.published;
      last = h.last;
      writes = h.writes;
      loads = h.loads;
      locks = h.locks;
      notices = h.notices;
      asks = h.asks;
      listed = h.listed;
    }

pub returns-in_default-clause-draws : goal.returns-in_default-clause-draws
returns-in_default-clause-draws g c = λ w h draws.
    let stream = g.G.Ids.stream c.args.ids.now in
    let on : w.rules.closures ≡ true = ap (λ (r : Rules). r.closures) (sym h.rules) ∙ c.if-not-self.false in
    let are = c.reserve.ensures.same (predicate_part w) h.predicates in
    let is = free_of w.registered stream w.ids w.drawn draws 1000 in
    draws_then w c.args.test stream (g.G.Ids.stream c.draw.new.ids) _ _ draws (drawn_then w c.args.test stream w.rules.closures _ _ on is) (c.draw.ensures.others (predicate_part w) are)

pub returns-in_default-clause-misses : goal.returns-in_default-clause-misses
returns-in_default-clause-misses g c = λ w h m. record {
  turns = m.turns;
  settlements = m.settlements;
  answers = m.answers;
  locks = m.locks;
  notices = m.notices;
}

pub returns-clause-finds : goal.returns-clause-finds
returns-clause-finds g c = λ w h draws.
    let stream = g.G.Ids.stream c.args.ids.now in
    let on : w.rules.closures ≡ true = ap (λ (r : Rules). r.closures) (sym h.rules) ∙ c.if-not-self.false in
    let are = c.reserve.ensures.same (predicate_part w) h.predicates in
    let is = free_of w.registered stream w.ids w.drawn draws 1000 in
    (one_is_free w c.args.test stream w.rules.closures _ _ c.in-Some.id c.args.self.now.clock on is draws h.clock (c.in-Some.ensures.free (predicate_part w) are)).0

pub returns-clause-makes : goal.returns-clause-makes
returns-clause-makes g c = λ w h draws.
    let stream = g.G.Ids.stream c.args.ids.now in
    let on : w.rules.closures ≡ true = ap (λ (r : Rules). r.closures) (sym h.rules) ∙ c.if-not-self.false in
    let are = c.reserve.ensures.same (predicate_part w) h.predicates in
    let is = free_of w.registered stream w.ids w.drawn draws 1000 in
    let same = (one_is_free w c.args.test stream w.rules.closures _ _ c.in-Some.id c.args.self.now.clock on is draws h.clock (c.in-Some.ensures.free (predicate_part w) are)).1 in
    record {
      rules = h.rules;
      clock = h.clock;
      valid_after = h.valid_after;
      predicates = subst (λ (rs : List Registered). PredicatesAre c.push.new.self (record { clock = w.clock; registered = rs })) same (c.push.ensures (predicate_part w) are h.clock);
      accessed = h.accessed;
      turn = h.turn;
      published = h.published;
      last = h.last;
      writes = h.writes;
      loads = h.loads;
      locks = h.locks;
      notices = h.notices;
      asks = h.asks;
      listed = h.listed;
    }

pub returns-clause-draws : goal.returns-clause-draws
returns-clause-draws g c = λ w h draws.
    let stream = g.G.Ids.stream c.args.ids.now in
    let on : w.rules.closures ≡ true = ap (λ (r : Rules). r.closures) (sym h.rules) ∙ c.if-not-self.false in
    let are = c.reserve.ensures.same (predicate_part w) h.predicates in
    let is = free_of w.registered stream w.ids w.drawn draws 1000 in
    draws_then w c.args.test stream (g.G.Ids.stream c.draw.new.ids) _ _ draws (drawn_then w c.args.test stream w.rules.closures _ _ on is) (c.draw.ensures.others (predicate_part w) are)

pub returns-clause-misses : goal.returns-clause-misses
returns-clause-misses g c = λ w h m. record {
  turns = m.turns;
  settlements = m.settlements;
  answers = m.answers;
  locks = m.locks;
  notices = m.notices;
}

pub push-requires-clause-free : goal.push-requires-clause-free
push-requires-clause-free g c = c.in-Some.ensures.unused
