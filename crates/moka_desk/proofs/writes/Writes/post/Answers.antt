use Rattle.std.proofs.Common.{◌≡◌, ◌==◌, cond, nat_lt, nat_eq, is_some, false, length, refl, ap, ◌∙◌, arith}
use Rattle.std.proofs.lemmas.Bool.Decides.{nat_tests}
use Rattle.std.specs.HashMap.{get}
use Rattle.moka_desk.specs.Held.{decided_holding, held_by}
use Rattle.moka_desk.proofs.Numbers.{still_once}
use Rattle.moka_desk.proofs.writes.Writes.post.Goals as goal

pub returns-then-len-self-clause-makes : goal.returns-then-len-self-clause-makes
returns-then-len-self-clause-makes c = λ p h.
    let held = held_by c.args.self.now.held.holdings in
    let call = c.args.call in
    let len = c.len.ensures in
    let over = c.if-len-self.true in
    let full' : nat_lt (length c.args.self.now.log.items) c.args.self.now.size ≡ false = grind (arith, nat_tests) in
    let full : nat_lt (length p.log) p.size ≡ false = rw (← h.log, ← h.size) full' in
    record {
      holding = rw full (λ n. c.decide.ensures.holds n ∙ ap (λ o. cond (call == n) (decided_holding o) (held n)) (h.holding call)
          ∙ ap (λ o. cond (call == n) (decided_holding (p.holding call)) o) (h.holding n));
      owed = h.owed;
      log = rw full h.log;
      applied = h.applied;
      once = λ n. still_once _ _ _ _ _ (ap (λ m. is_some (get nat_eq m n)) c.decide.ensures.holders) refl (h.once n);
      size = h.size;
    }
