-- What is neither held nor owed nor logged, and was not applied, stands nowhere.
use Rattle.std.proofs.Common.{◌≡◌, ◌++◌, Bool, true, false, not, IsTrue, cond, map, nat_lt, nat_eq, refl, sym, ap, ◌∙◌}
use Rattle.std.specs.HashMap.{get}
use Rattle.moka_hist.specs.Finite.{times}
use Rattle.moka_hist.specs.Visits.{is_replaced, number_of}
use Rattle.moka_hist.proofs.Owners.{is_none_of}
use Rattle.moka_desk.specs.Held.{held_by}
use Rattle.moka_desk.specs.Writes.{WritePart, WritesAre}
use Rattle.moka_desk.proofs.Numbers.{among_by_times, among_none, none_in_both, not_among, not_made, unmade, unposted, unused_applied, unused_logged}
use Rattle.moka_desk.proofs.Owing.{has_no_place, held_by_none, stands_nowhere}
use Rattle.moka_desk.proofs.Recalling.{by_history}
use Rattle.moka_desk.proofs.WhoHolds.{differ}
use Rattle.moka_desk.proofs.Coming.{is_false}
use Rattle.moka_desk.proofs.writes.Writes.is_unused.Goals as goal

pub returns-then-contains-clause-no : goal.returns-then-contains-clause-no
returns-then-contains-clause-no c = λ p h unused.
    let s = c.args.self.now in
    let number = c.args.number in
    let nowhere : times number (map number_of (map (λ o. o.write) s.owed.items ++ s.log.items ++ p.applied)) ≡ 0 = rw (h.owed, h.log) unused.stands in
    sym (has_no_place (get nat_eq s.held.holders) (held_by s.held.holdings) s.held.agree s.owed.items s.log.items p.applied s.nobody_holds_owed number nowhere
    (λ n held is. unused.held n held (sym (h.holding n) ∙ is)))
    ∙ sym c.contains.ensures ∙ c.if-contains.true

pub returns-then-contains-clause-exact : goal.returns-then-contains-clause-exact
returns-then-contains-clause-exact c = λ whole p h. ((λ no. differ (sym no)), returns-then-contains-clause-no c p h)

pub returns-then-contains-2-clause-no : goal.returns-then-contains-2-clause-no
returns-then-contains-2-clause-no c = λ p h unused.
    let s = c.args.self.now in
    let number = c.args.number in
    let none : times number (map number_of s.log.items) ≡ 0 = rw h.log (unused_logged number p.owed p.log p.applied unused.stands) in
    sym (unposted _ _ (s.posted_are number) none) ∙ sym c.contains-2.ensures ∙ c.if-contains-2.true

pub returns-then-contains-2-clause-exact : goal.returns-then-contains-2-clause-exact
returns-then-contains-2-clause-exact c = λ whole p h. ((λ no. differ (sym no)), returns-then-contains-2-clause-no c p h)

pub returns-clause-no : goal.returns-clause-no
returns-clause-no c = λ p h unused. by c.args.self.now.applied.history refl p h (unused_applied c.args.number p.owed p.log p.applied unused.stands) where
  by : (b : Bool) → c.args.self.now.applied.history ≡ b → (p : WritePart) → WritesAre c.args.self.now p → times c.args.number (map number_of p.applied) ≡ 0 → IsTrue (not c.recalls.result)
  by true e p h none =
      not_among c.recalls.result (times c.args.number (map number_of p.applied))
      (c.recalls.ensures.all e ∙ among_by_times c.args.number c.args.self.now.applied.writes.items ∙ ap (λ xs. nat_lt 0 (times c.args.number (map number_of xs))) (h.applied.history e)) none
  by false e p h none =
      ap not (c.recalls.ensures.standing e ∙ h.applied.records.standing c.args.number ∙ not_made (is_replaced p.applied c.args.number) (unmade c.args.number p.applied none))

pub returns-clause-exact : goal.returns-clause-exact
returns-clause-exact c = λ whole p h.
    let s = c.args.self.now in
    let number = c.args.number in
    let holders = get nat_eq s.held.holders in
    let recalled = c.recalls.ensures.all whole ∙ among_by_times number s.applied.writes.items ∙ ap (λ xs. nat_lt 0 (times number (map number_of xs))) (h.applied.history whole) in
    let none = is_none_of (holders number) (sym c.contains.ensures ∙ c.if-contains.false) in
    let unlogged : times number (map number_of s.log.items) ≡ 0 = s.posted_are number ∙ ap (λ b. cond b 1 0) (sym c.contains-2.ensures ∙ c.if-contains-2.false) in (
      (λ not_there.
          let nowhere = stands_nowhere holders (held_by s.held.holdings) s.held.agree s.owed.items s.log.items p.applied s.nobody_holds_owed number none
          (none_in_both number s.log.items p.applied unlogged (among_none c.recalls.result _ recalled not_there)) in
          record {
            stands = rw (← h.owed, ← h.log) nowhere;
            held = λ n held is. held_by_none holders (held_by s.held.holdings) s.held.agree s.owed.items s.log.items p.applied s.nobody_holds_owed number none n held (h.holding n ∙ is);
          }),
      returns-clause-no c p h,
    )

pub returns-then-contains-clause-forgotten : goal.returns-then-contains-clause-forgotten
returns-then-contains-clause-forgotten c = λ no. differ (sym no)

pub returns-then-contains-2-clause-forgotten : goal.returns-then-contains-2-clause-forgotten
returns-then-contains-2-clause-forgotten c = λ no. differ (sym no)

pub returns-clause-forgotten : goal.returns-clause-forgotten
returns-clause-forgotten c = λ not_there p h.
    let s = c.args.self.now in
    let number = c.args.number in
    by_history s number p h (λ whole. (returns-clause-exact c whole p h).0 not_there)
    (is_none_of (get nat_eq s.held.holders number) (sym c.contains.ensures ∙ c.if-contains.false))
    (sym c.contains-2.ensures ∙ c.if-contains-2.false)
    (λ brief. sym (c.recalls.ensures.standing brief) ∙ is_false c.recalls.result not_there)
