use Rattle.std.proofs.Common.{◌==◌, cond, is_some, nat_eq, refl, ap, ◌∙◌}
use Rattle.std.specs.HashMap.{get}
use Rattle.moka_desk.specs.Held.{decided_holding, held_by}
use Rattle.moka_desk.proofs.Numbers.{still_once}
use Rattle.moka_desk.proofs.writes.Writes.decide.Goals as goal

pub returns-clause-makes : goal.returns-clause-makes
returns-clause-makes c = λ p h.
    let held = held_by c.args.self.now.held.holdings in
    let call = c.args.call in
    record {
      holding = λ n. c.decide.ensures.holds n ∙ ap (λ o. cond (call == n) (decided_holding o) (held n)) (h.holding call)
          ∙ ap (λ o. cond (call == n) (decided_holding (p.holding call)) o) (h.holding n);
      owed = h.owed;
      log = h.log;
      applied = h.applied;
      once = λ n. still_once _ _ _ _ _ (ap (λ m. is_some (get nat_eq m n)) c.decide.ensures.holders) refl (h.once n);
      size = h.size;
    }
