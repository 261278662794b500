use Rattle.std.proofs.Common.{◌==◌, Some, None, cond, ap, ◌∙◌}
use Rattle.std.specs.Prelude.{nat_eq}
use Rattle.std.specs.Map.{lookup}
use Rattle.std.specs.HashMap.{get}
use Rattle.moka_desk.specs.Notices.{either}
use Rattle.moka_desk.specs.Held.{held_by}
use Rattle.moka_desk.proofs.WhoHolds.{flip, free_at, lookup_last, put_in_rest}
use Rattle.moka_desk.proofs.holdings.Holdings.put_beside.Goals as goal

pub returns-clause-holds : goal.returns-clause-holds
returns-clause-holds c = λ n.
    let s = c.args.self.now in
    let call = c.args.call in
    let holding = c.args.holding in
    ap (λ xs. either (get nat_eq s.by_call n) (lookup (nat_eq n) xs)) c.push_reserved.ensures.items
    ∙ ap (either (get nat_eq s.by_call n)) (lookup_last n call holding s.rest.items ∙ ap (λ b. either (lookup (nat_eq n) s.rest.items) (cond b (Some holding) None)) (flip n call))
    ∙ put_in_rest (call == n) holding (get nat_eq s.by_call n) (lookup (nat_eq n) s.rest.items) (held_by s n) (free_at (held_by s) call c.requires.free n)
