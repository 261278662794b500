use Rattle.std.proofs.Common.{◌≡◌, ◌==◌, ◌+◌, true, cond, List, sym, ap, subst, ◌∙◌}
use Rattle.std.specs.Prelude.{nat_eq}
use Rattle.std.specs.HashMap.{get}
use Rattle.moka_hist.specs.Finite.{times}
use Rattle.moka_hist.specs.Visits.{number_of}
use Rattle.moka_hist.specs.declared.writes.Owed.{Owed}
use Rattle.moka_desk.specs.Held.{held_by, holds_number, owed_at, owed_numbers}
use Rattle.moka_desk.proofs.Owing.{owed_then}
use Rattle.moka_desk.proofs.writes.Writes.leave_owed.Goals as goal

pub leave-requires : goal.leave-requires
leave-requires c =
    subst (λ number. holds_number c.args.call number (held_by c.args.self.now.held.holdings c.args.call) ≡ true) (sym c.number.ensures) c.requires

pub invariant_of-self-clause-nobody_holds_owed : goal.invariant_of-self-clause-nobody_holds_owed
invariant_of-self-clause-nobody_holds_owed c = λ n.
    let s = c.args.self.now in
    ap (λ (xs : List Owed). times n (owed_numbers xs)) c.push_back_reserved.ensures.items
    ∙ owed_then n s.owed.items c.args.owed
    ∙ ap (λ k. k + cond (n == number_of c.args.owed.write) 1 0) (s.nobody_holds_owed n)
    ∙ ap (λ number. owed_at (get nat_eq s.held.holders n) + cond (n == number) 1 0) (sym c.number.ensures)
    ∙ sym (c.leave.ensures.owed n)

pub invariant_of-self-clause-posted_by_none : goal.invariant_of-self-clause-posted_by_none
invariant_of-self-clause-posted_by_none c = λ n e. c.args.self.now.posted_by_none n (sym (c.leave.ensures.known n) ∙ e)
