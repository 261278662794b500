use Rattle.std.proofs.Common.{◌≡◌, ◌==◌, ◌&&◌, true, false, cond, None, is_some, nat_eq, refl, sym, ap, subst, unwrap_or, ◌∙◌}
use Rattle.std.specs.HashMap.{get}
use Rattle.moka_hist.specs.Finite.{put_at}
use Rattle.moka_hist.specs.Visits.{is_reader_of, readers_without, settled_without, settlement_for}
use Rattle.moka_hist.specs.declared.visits.Found.TheVariants as found
use Rattle.moka_hist.specs.declared.visits.Settled.TheVariants as settled
use Rattle.moka_desk.specs.Lines.{line_at}
use Rattle.moka_desk.specs.ListedMiss.{ListedMiss}
use Rattle.moka_desk.specs.Loads.{load_part, LoadsAre}
use Rattle.moka_desk.specs.StandsFor.{StandsFor}
use Rattle.moka_desk.specs.Waits.{awaited, settlement_line}
use Rattle.moka_desk.proofs.Listed.{listed_already}
use Rattle.moka_desk.proofs.Misses.{by_cases, unsettled_owner, none_still, left_listed}
use Rattle.moka_desk.proofs.Waiters.{has_ended, leaves_listed, more_readers, one_awaited, still_awaited, unread}
use Rattle.moka_desk.proofs.Woken.{out_already}
use Rattle.moka_desk.proofs.state.Desk.read_settled.Goals as goal

-- ---- the owner has not ended

pub returns-in_default-clause-finds : goal.returns-in_default-clause-finds
returns-in_default-clause-finds g c = λ w h may.
    ap (λ o. found.ReadSettled (unwrap_or o settled.NotYet)) (sym c.in_default.is ∙ c.in_ok-settlement.ensures.finds w h.loads)

pub returns-in_default-clause-makes : goal.returns-in_default-clause-makes
returns-in_default-clause-makes g c = λ w h may.
    let eq = g.K.PartialEq.eq in
    let self = c.args.self.now in
    let call = c.args.call in
    let after = record self { loads = c.read.new.self } in
    let left = record w { joined = put_at w.joined call None; readers = readers_without w call; settled = settled_without w call } in
    let none : is_some (settlement_for w call) ≡ false = ap is_some (sym (c.in_ok-settlement.ensures.finds w h.loads) ∙ c.in_default.is) in
    let are : LoadsAre eq c.read.new.self (load_part w) =
    subst (λ b. LoadsAre eq c.read.new.self (load_part (cond b left w))) none (c.in_ok-settlement.ensures.ok w h.loads) in
    subst (λ b. StandsFor eq after (cond b left w)) (sym none) (record {
      rules = h.rules;
      clock = h.clock;
      valid_after = h.valid_after;
      predicates = h.predicates;
      accessed = h.accessed;
      turn = h.turn;
      published = h.published;
      last = h.last;
      writes = h.writes;
      loads = are;
      locks = h.locks;
      notices = h.notices;
      asks = h.asks;
      listed = h.listed;
    })

pub returns-in_default-clause-misses : goal.returns-in_default-clause-misses
returns-in_default-clause-misses g c = λ w h may m.
    let self = c.args.self.now in
    let call = c.args.call in
    let none : is_some (settlement_for w call) ≡ false = ap is_some (sym (c.in_ok-settlement.ensures.finds w h.loads) ∙ c.in_default.is) in
    subst (λ b. ListedMiss (record self { loads = c.read.new.self }) (cond b (record w { joined = put_at w.joined call None; readers = readers_without w call; settled = settled_without w call }) w)) (sym none) (record {
      turns = m.turns;
      settlements = m.settlements;
      answers = m.answers;
      locks = m.locks;
      notices = m.notices;
    })

pub returns-in_default-clause-reads : goal.returns-in_default-clause-reads
returns-in_default-clause-reads g c = λ none.
    let w = c.requires.waits.0 in
    let h = c.requires.waits.1 in
    let may = c.requires.waits.2 in
    absurd (no (sym (has_ended g.K.PartialEq.eq c.args.self.now.loads w h.loads c.args.call may (ap is_some none))
    ∙ ap is_some (sym (c.in_ok-settlement.ensures.finds w h.loads) ∙ c.in_default.is))) where
      no : true ≡ false → ⊥
      no e = cc

pub returns-in_default-clause-waits : goal.returns-in_default-clause-waits
returns-in_default-clause-waits g c = λ owner is.
    let w = c.requires.waits.0 in
    let h = c.requires.waits.1 in
    let self = c.args.self.now in
    let lines = self.waits.settlements in
    let found = unsettled_owner (get nat_eq self.loads.joined c.args.call) (λ n. get nat_eq self.loads.settled n) owner is in
    let on = h.listed c.args.call owner (sym (h.loads.joined c.args.call) ∙ found.0) (ap is_some (sym (h.loads.settled owner)) ∙ found.1) in
    (listed_already (line_at lines.lists) (get nat_eq lines.places) lines.placed owner c.args.call on.1, refl, refl)

pub returns-in_default-clause-back : goal.returns-in_default-clause-back
returns-in_default-clause-back g c =
    let w = c.requires.waits.0 in
    let h = c.requires.waits.1 in
    let may = c.requires.waits.2 in
    let self = c.args.self.now in
    let lines = self.waits.settlements in
    let none : is_some (settlement_for w c.args.call) ≡ false = ap is_some (sym (c.in_ok-settlement.ensures.finds w h.loads) ∙ c.in_default.is) in
    let owner = one_awaited (awaited self c.args.call) (still_awaited g.K.PartialEq.eq self.loads w h.loads c.args.call may none) in
    let found = unsettled_owner (get nat_eq self.loads.joined c.args.call) (λ n. get nat_eq self.loads.settled n) owner.0 owner.1 in
    let on = h.listed c.args.call owner.0 (sym (h.loads.joined c.args.call) ∙ found.0) (ap is_some (sym (h.loads.settled owner.0)) ∙ found.1) in
    record {
      turns = λ k. refl;
      settlements = out_already (line_at lines.lists) (get nat_eq lines.places) lines.placed owner.0 c.args.call on.1;
      answers = λ k. refl;
      locks = λ k. refl;
      notices = λ k. refl;
    }

-- ---- it has

pub returns-clause-finds : goal.returns-clause-finds
returns-clause-finds g c = λ w h may.
    ap (λ o. found.ReadSettled (unwrap_or o settled.NotYet)) (sym c.in-Some.is ∙ c.in_ok-settlement.ensures.finds w h.loads)

pub returns-clause-makes : goal.returns-clause-makes
returns-clause-makes g c = λ w h may.
    let eq = g.K.PartialEq.eq in
    let self = c.args.self.now in
    let call = c.args.call in
    let after = record self { loads = c.read.new.self; waits = record self.waits { settlements = c.leave.new.self } } in
    let left = record w { joined = put_at w.joined call None; readers = readers_without w call; settled = settled_without w call } in
    let ended : is_some (settlement_for w call) ≡ true =
    ap is_some (sym (c.in_ok-settlement.ensures.finds w h.loads) ∙ c.in-Some.is) in
    let are : LoadsAre eq c.read.new.self (load_part left) =
    subst (λ b. LoadsAre eq c.read.new.self (load_part (cond b left w))) ended (c.in_ok-settlement.ensures.ok w h.loads) in
    subst (λ b. StandsFor eq after (cond b left w)) (sym ended) (record {
      rules = h.rules;
      clock = h.clock;
      valid_after = h.valid_after;
      predicates = h.predicates;
      accessed = h.accessed;
      turn = h.turn;
      published = h.published;
      last = h.last;
      writes = h.writes;
      loads = are;
      locks = h.locks;
      notices = h.notices;
      asks = h.asks;
      listed = leaves_listed (settlement_line self) w.joined w.settled w.owning h.listed call w.readers _ (more_readers eq self.loads w h.loads) c.leave.ensures.off;
    })

pub returns-clause-misses : goal.returns-clause-misses
returns-clause-misses g c = λ w h may m.
    let call = c.args.call in
    let self = c.args.self.now in
    let after = record self { loads = c.read.new.self; waits = record self.waits { settlements = c.leave.new.self } } in
    let left = record w { joined = put_at w.joined call None; readers = readers_without w call; settled = settled_without w call } in
    by_cases (λ b. ListedMiss after (cond b left w))
    (record {
      turns = m.turns;
      settlements = left_listed _ _ _ _ call c.leave.ensures.off
          (λ n k other is. (ap (λ b. cond b None (w.joined k)) other ∙ is.0, none_still (is_reader_of w call n && w.readers n == 1) (w.settled n) is.1)) m.settlements;
      answers = m.answers;
      locks = m.locks;
      notices = m.notices;
    })
    (record {
      turns = m.turns;
      settlements = left_listed _ _ _ _ call c.leave.ensures.off (λ n k other is. is) m.settlements;
      answers = m.answers;
      locks = m.locks;
      notices = m.notices;
    })
    (is_some (settlement_for w call))

pub returns-clause-waits : goal.returns-clause-waits
returns-clause-waits g c = λ owner is.
    let w = c.requires.waits.0 in
    let h = c.requires.waits.1 in
    absurd (no (sym (ap is_some (sym (c.in_ok-settlement.ensures.finds w h.loads) ∙ c.in-Some.is))
    ∙ unread g.K.PartialEq.eq c.args.self.now.loads w h.loads c.args.call (ap is_some is))) where
      no : true ≡ false → ⊥
      no e = cc
