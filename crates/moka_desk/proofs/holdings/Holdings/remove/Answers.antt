use Rattle.std.proofs.Common.{◌≤◌, ◌+◌, ◌==◌, List, length, None, cond, is_some, sym, ap, subst, ◌∙◌}
use Rattle.std.specs.Prelude.{nat_eq, ℕ}
use Rattle.std.specs.Map.{lookup}
use Rattle.std.specs.HashMap.{get}
use Rattle.moka_hist.specs.declared.writes.Holding.{Holding}
use Rattle.moka_desk.specs.Notices.{either}
use Rattle.moka_desk.proofs.WhoHolds.{fewer, others_fewer, others_hold, out_of_both}
use Rattle.moka_desk.proofs.holdings.Holdings.remove.Goals as goal

pub returns-clause-holds : goal.returns-clause-holds
returns-clause-holds c = λ n.
    let s = c.args.self.now in
    let call = c.args.call in
    ap (λ o. either o (lookup (nat_eq n) c.remove_from.new.rest.items)) (c.take_at.ensures.updates n)
    ∙ ap (λ xs. either (cond (call == n) None (get nat_eq s.by_call n)) (lookup (nat_eq n) xs)) c.remove_from.ensures.others
    ∙ ap (λ o. either (cond (call == n) None (get nat_eq s.by_call n)) o) (others_hold call n s.rest.items)
    ∙ out_of_both (call == n) (get nat_eq s.by_call n) (lookup (nat_eq n) s.rest.items)

pub returns-clause-count : goal.returns-clause-count
returns-clause-count c =
    let s = c.args.self.now in
    let call = c.args.call in
    let rest : length c.remove_from.new.rest.items + cond (is_some (lookup (nat_eq call) s.rest.items)) 1 0 ≤ length s.rest.items =
    subst (λ (xs : List (ℕ × Holding)). length xs + cond (is_some (lookup (nat_eq call) s.rest.items)) 1 0 ≤ length s.rest.items) (sym c.remove_from.ensures.others) (others_fewer call s.rest.items) in
    fewer (get nat_eq s.by_call call) (lookup (nat_eq call) s.rest.items) _ _ _ _ c.take_at.ensures.len rest
