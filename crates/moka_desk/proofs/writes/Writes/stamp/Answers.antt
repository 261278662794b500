use Rattle.std.proofs.Common.{◌==◌, ◌∙◌, ◌||◌, cond, Some, is_some, nat_eq, ap}
use Rattle.std.specs.HashMap.{get}
use Rattle.std.specs.HashSet.{contains}
use Rattle.moka_hist.specs.declared.writes.Holding.TheVariants as holding
use Rattle.moka_desk.proofs.Numbers.{once_placed, still_once, unused_applied}
use Rattle.moka_desk.proofs.Outcomes.{on_err}
use Rattle.moka_desk.proofs.writes.Writes.stamp.Goals as goal

pub returns-in_err-reserve-4-clause-err : goal.returns-in_err-reserve-4-clause-err
returns-in_err-reserve-4-clause-err c = on_err c.from_residual-in_err-reserve-4.result (λ p h. record {
  holding = λ n. c.reserve.ensures.same n ∙ h.holding n;
  owed = c.reserve-2.ensures.items ∙ h.owed;
  log = h.log;
  applied = c.reserve-4.ensures.same p.applied h.applied;
  once = λ n. still_once _ _ _ _ _ (ap is_some (c.reserve.ensures.holders n)) (c.reserve-3.ensures.keys.2 n) (h.once n);
  size = h.size;
})

pub returns-clause-ok : goal.returns-clause-ok
returns-clause-ok c = λ p h unused.
    let s = c.args.self.now in
    let call = c.args.call in
    record {
      holding = λ n. c.stamp.ensures.holds n
          ∙ ap (λ o. cond (call == n) (Some (holding.Own (Some c.args.moment))) o) (c.reserve.ensures.same n ∙ h.holding n);
      owed = c.reserve-2.ensures.items ∙ h.owed;
      log = h.log;
      applied = c.reserve-4.ensures.same p.applied h.applied;
      once = λ n. still_once _ _ _ _ _
          (c.stamp.ensures.known n ∙ ap (λ o. is_some o || (call == n)) (c.reserve.ensures.holders n)) (c.reserve-3.ensures.keys.2 n)
          (once_placed (λ m. is_some (get nat_eq s.held.holders m)) (contains nat_eq s.posted) p.applied h.once call (unused_applied call p.owed p.log p.applied unused.stands) n);
      size = h.size;
    }
