-- The call gets the next ticket, and a node at the end.
use Rattle.std.proofs.Common.{◌≡◌, ◌∙◌, ◌++◌, ◌∷◌, [], ℕ, Some, cond, nat_eq, true, false, sym, ap, arith, length-append}
use Rattle.moka_sync.specs.Tickets.{ticket_of}
use Rattle.moka_sync.specs.Waiting.{Waiting}
use Rattle.moka_sync.specs.Standing.{standing}
use Rattle.moka_sync.proofs.Stands.{unticketed, AreKept-list, AreKept-listed}
use Rattle.moka_sync.proofs.wait_list.WaitList.add.Goals as goal

pub give-requires-clause-free : goal.give-requires-clause-free
give-requires-clause-free c = c.reserve.ensures.same c.args.call
    ∙ unticketed c.self.inside c.args.self.now c.args.call c.contains.result c.self.view_is c.self.invariant c.contains.ensures c.if-contains.false

pub invariant_of-self-2 : goal.invariant_of-self-2
invariant_of-self-2 c =
    let w = c.self.inside in
    let f = ticket_of w.tickets in
    let g = ticket_of c.give.new.self in
    let none = unticketed w c.args.self.now c.args.call c.contains.result c.self.view_is c.self.invariant c.contains.ensures c.if-contains.false in
    let given : (q : ℕ) → g q ≡ cond (nat_eq c.args.call q) (Some w.next) (f q) = λ q.
    c.give.ensures.given q ∙ ap (λ o. cond (nat_eq c.args.call q) (Some w.next) o) (c.reserve.ensures.same q) in
    let listed = AreKept-listed f g w.places c.args.call w.next none given c.self.invariant.kept in
    record {
      kept = rw c.in_ok-push_back.ensures.items (AreKept-list f g w.places c.args.call w.next none given c.self.invariant.kept);
      count = rw (c.in_ok-push_back.ensures.items, listed, length-append) (omega arith);
      map_room = omega (arith, c.in_ok-reserve.ensures.room);
      tickets_left = omega arith;
      nodes_fit = rw (c.in_ok-push_back.ensures.items, length-append) (omega arith);
    }

pub returns-clause-listed : goal.returns-clause-listed
returns-clause-listed c =
    let w = c.self.inside in
    let f = ticket_of w.tickets in
    let g = ticket_of c.give.new.self in
    let none = unticketed w c.args.self.now c.args.call c.contains.result c.self.view_is c.self.invariant c.contains.ensures c.if-contains.false in
    let given : (q : ℕ) → g q ≡ cond (nat_eq c.args.call q) (Some w.next) (f q) = λ q.
    c.give.ensures.given q ∙ ap (λ o. cond (nat_eq c.args.call q) (Some w.next) o) (c.reserve.ensures.same q) in
    let listed = AreKept-listed f g w.places c.args.call w.next none given c.self.invariant.kept in
    let calls : standing f w.places ≡ c.args.self.now.calls = ap (λ (v : Waiting). v.calls) c.self.view_is in
    record {
      again = λ waiting. absurd (no (sym waiting ∙ sym c.contains.ensures ∙ c.if-contains.false));
      first = λ _. rw (c.in_ok-push_back.ensures.items, listed) (ap (λ xs. xs ++ c.args.call ∷ []) calls);
    }
  where
    no : true ≡ false → ⊥
    no e = cc
