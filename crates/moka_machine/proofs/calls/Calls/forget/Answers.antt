-- The call has no place any more, which was that of the newest call or another.
use Rattle.std.proofs.Common.{◌==◌, nat_eq, cond, None, ap, ◌∙◌}
use Rattle.std.specs.HashMap.{get}
use Rattle.moka_machine.proofs.Newest.{set_beside, set_newest}
use Rattle.moka_machine.proofs.calls.Calls.forget.Goals as goal

pub returns-then-call-self : goal.returns-then-call-self
returns-then-call-self g c = λ n.
    let s = c.args.self.now in
    set_newest s.last c.args.call n None s.newest (get nat_eq s.places n) c.if-call-self.true

pub returns-else-call-self : goal.returns-else-call-self
returns-else-call-self g c = λ n.
    let s = c.args.self.now in
    ap (λ o. cond (s.last == n) s.newest o) (c.give_up.ensures n)
    ∙ set_beside s.last c.args.call n s.newest None (get nat_eq s.places n) c.if-call-self.false
