use Rattle.std.proofs.Common.{◌==◌, cond, None, is_some, nat_eq, refl, ap, ◌∙◌}
use Rattle.std.specs.HashMap.{get}
use Rattle.std.specs.HashSet.{contains}
use Rattle.moka_desk.proofs.Numbers.{once_given_up, still_once}
use Rattle.moka_desk.proofs.writes.Writes.give_place_up.Goals as goal

pub returns-clause-makes : goal.returns-clause-makes
returns-clause-makes c = λ p h.
    let s = c.args.self.now in
    record {
      holding = λ n. c.clear.ensures.holds n ∙ ap (λ o. cond (c.args.call == n) None o) (h.holding n);
      owed = h.owed;
      log = h.log;
      applied = c.give_up.ensures.same p.applied h.applied;
      once = λ n. still_once _ _ _ _ _ (c.clear.ensures.known n) refl
          (once_given_up (λ m. is_some (get nat_eq s.held.holders m)) (contains nat_eq s.posted) p.applied h.once c.args.call n);
      size = h.size;
    }
