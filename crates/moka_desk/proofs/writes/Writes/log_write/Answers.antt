use Rattle.std.proofs.Common.{◌≡◌, ◌==◌, ◌||◌, true, cond, List, map, nat_eq, is_some, sym, ap, subst, ◌∙◌}
use Rattle.std.specs.HashMap.{get}
use Rattle.std.specs.HashSet.{contains}
use Rattle.moka_hist.specs.Finite.{times}
use Rattle.moka_hist.specs.Visits.{number_of}
use Rattle.moka_hist.specs.declared.writes.Write.{Write}
use Rattle.moka_desk.specs.Held.{held_by, holds_number}
use Rattle.moka_desk.proofs.Numbers.{logged_more, still_apart}
use Rattle.moka_desk.proofs.WhoHolds.{has_place, holder_is}
use Rattle.moka_desk.proofs.writes.Writes.log_write.Goals as goal

pub clear-requires : goal.clear-requires
clear-requires c =
    subst (λ number. holds_number c.args.call number (held_by c.args.self.now.held.holdings c.args.call) ≡ true) (sym c.number-number.ensures) c.requires.held

pub invariant_of-self-clause-posted_are : goal.invariant_of-self-clause-posted_are
invariant_of-self-clause-posted_are c = λ n.
    let s = c.args.self.now in
    let number = number_of c.args.write in
    let placed = holder_is (get nat_eq s.held.holders number) c.args.call (has_place (get nat_eq s.held.holders) (held_by s.held.holdings) s.held.agree c.args.call number c.requires.held) in
    ap (λ (xs : List Write). times n (map number_of xs)) c.push_back_reserved.ensures.items
    ∙ logged_more (contains nat_eq s.posted) s.log.items c.args.write s.posted_are (s.posted_by_none number placed) n
    ∙ ap (λ k. cond (contains nat_eq s.posted n || (k == n)) 1 0) (sym c.number-number.ensures)
    ∙ ap (λ b. cond b 1 0) (sym (c.add.ensures.has n))

pub invariant_of-self-clause-posted_by_none : goal.invariant_of-self-clause-posted_by_none
invariant_of-self-clause-posted_by_none c = λ n e.
    let s = c.args.self.now in
    c.add.ensures.has n
    ∙ still_apart (c.number-number.result == n) (is_some (get nat_eq s.held.holders n)) (contains nat_eq s.posted n) (s.posted_by_none n) (sym (c.clear.ensures.known n) ∙ e)

pub invariant_of-self-clause-nobody_holds_owed : goal.invariant_of-self-clause-nobody_holds_owed
invariant_of-self-clause-nobody_holds_owed c = λ n. c.args.self.now.nobody_holds_owed n ∙ sym (c.clear.ensures.owed n)
