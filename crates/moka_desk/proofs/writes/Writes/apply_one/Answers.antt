-- The oldest of the log is applied.
use Rattle.std.proofs.Common.{◌≡◌, ◌≤◌, ◌+◌, ◌==◌, ◌||◌, ◌++◌, ◌∷◌, [], ℕ, Bool, false, cond, take, drop, List, map, nat_eq, is_some, refl, sym, ap, subst, ◌∙◌}
use Rattle.std.specs.HashMap.{get}
use Rattle.std.specs.HashSet.{contains}
use Rattle.moka_hist.specs.Finite.{times}
use Rattle.moka_hist.specs.Visits.{number_of}
use Rattle.moka_hist.specs.declared.writes.Write.{Write}
use Rattle.moka_desk.specs.Applied.{AppliedAre}
use Rattle.moka_desk.proofs.Numbers.{front_is_posted, logged_less, none_applied, once_applied, out_too, still_once, unmade}
use Rattle.moka_desk.proofs.writes.Writes.apply_one.Goals as goal

pub invariant_of-self-2-clause-posted_are : goal.invariant_of-self-2-clause-posted_are
invariant_of-self-2-clause-posted_are c = λ n.
    let s = c.args.self.now in
    let w = c.in-Some.write in
    let rest = c.pop_front.new.self.items in
    logged_less (contains nat_eq s.posted) w rest (λ m. ap (λ (xs : List Write). times m (map number_of xs)) (sym c.in-Some.ensures.items) ∙ s.posted_are m) n
    ∙ ap (λ k. cond (cond (k == n) false (contains nat_eq s.posted n)) 1 0) (sym c.number.ensures)
    ∙ ap (λ b. cond b 1 0) (sym (c.remove.ensures.updates.0 n))

pub invariant_of-self-2-clause-posted_by_none : goal.invariant_of-self-2-clause-posted_by_none
invariant_of-self-2-clause-posted_by_none c = λ n e.
    let s = c.args.self.now in
    c.remove.ensures.updates.0 n ∙ out_too (c.number.result == n) (contains nat_eq s.posted n) (s.posted_by_none n e)

pub returns-clause-makes : goal.returns-clause-makes
returns-clause-makes c = λ p h.
    let s = c.args.self.now in
    let w = c.in-Some.write in
    let rest = c.pop_front.new.self.items in
    let place : ℕ → Bool = λ m. is_some (get nat_eq s.held.holders m) in
    let posted : ℕ → Bool = contains nat_eq s.posted in
    let was = front_is_posted posted w rest (λ m. ap (λ (xs : List Write). times m (map number_of xs)) (sym c.in-Some.ensures.items) ∙ s.posted_are m) in
    let front : p.log ≡ w ∷ rest = sym h.log ∙ c.in-Some.ensures.items in
    let one : w ∷ [] ≡ take 1 p.log = ap (take 1) (sym front) in
    record {
      holding = h.holding;
      owed = h.owed;
      log = ap (drop 1) (sym front);
      applied = subst (λ (xs : List Write). AppliedAre c.push.new.self (p.applied ++ xs)) one
          (c.push.ensures.applies p.applied h.applied (unmade (number_of w) p.applied (none_applied place posted p.applied h.once (number_of w) was)));
      once = λ n. subst (λ (xs : List Write). cond (place n || contains nat_eq c.remove.new.self n) 1 0 + times n (map number_of (p.applied ++ xs)) ≤ 1) one
          (still_once _ _ _ _ _ refl (c.remove.ensures.updates.0 n ∙ ap (λ k. cond (k == n) false (posted n)) c.number.ensures)
          (once_applied place posted p.applied h.once w s.posted_by_none was n));
      size = h.size;
    }
