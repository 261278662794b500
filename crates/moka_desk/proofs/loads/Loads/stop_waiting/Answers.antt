use Rattle.std.proofs.Common.{◌==◌, ◌&&◌, ◌-◌, ℕ, Some, None, cond, nat_eq, unwrap_or, refl, ap, sym, ◌≡◌, ◌∙◌}
use Rattle.std.specs.HashMap.{get}
use Rattle.moka_desk.proofs.Waiting.{counted_fewer, readers_left, settled_left, taken_once}
use Rattle.moka_desk.proofs.loads.Loads.stop_waiting.Goals as goal

pub invariant_of-self-clause-all_are_counted : goal.invariant_of-self-clause-all_are_counted
invariant_of-self-clause-all_are_counted g c = λ n.
    let s = c.args.self.now in
    c.release.ensures.readers n
    ∙ counted_fewer (λ m. unwrap_or (get nat_eq s.readers m) 0) s.joined.entries (λ k. c.args.call == k)
    c.remove.new.self.entries c.in-Some.owner n s.all_are_counted
    (sym c.remove.ensures.value ∙ c.in-Some.is) c.remove.ensures.entries

pub returns-in-Some : goal.returns-in-Some
returns-in-Some g c = λ w h.
    let s = c.args.self.now in
    let call = c.args.call in
    let owner = c.in-Some.owner in
    let waits : w.joined call ≡ Some owner =
    sym (h.joined call) ∙ sym c.remove.ensures.value ∙ c.in-Some.is in
    let count : ℕ → ℕ = λ n. unwrap_or (get nat_eq s.readers n) 0 in
    record {
      owners = h.owners;
      owning = h.owning;
      joined = λ n. c.remove.ensures.updates.0 n ∙ ap (λ o. cond (call == n) None o) (h.joined n);
      readers = λ n.
          c.release.ensures.readers n
          ∙ ap (λ x. cond (owner == n) (x - 1) (count n)) (h.readers owner)
          ∙ ap (λ x. cond (owner == n) (w.readers owner - 1) x) (h.readers n)
          ∙ rw waits (readers_left w.readers owner n (owner == n) refl);
      settled = λ n.
          c.release.ensures.settled n
          ∙ ap (λ x. cond (x == 1 && owner == n) None (get nat_eq s.settled n)) (h.readers owner)
          ∙ ap (λ o. cond (w.readers owner == 1 && owner == n) None o) (h.settled n)
          ∙ taken_once (w.readers owner == 1) w.settled owner n
          ∙ rw waits (settled_left w.readers w.settled owner n (owner == n) (w.readers owner == 1) refl refl);
      owns = h.owns;
      owned = h.owned;
    }
