-- The call is back in its place, which is that of the newest call or another.
use Rattle.std.proofs.Common.{◌==◌, nat_eq, cond, Option, Some, IsSome, ap, subst, ◌∙◌}
use Rattle.std.specs.HashMap.{get}
use Rattle.moka_machine.specs.declared.call_places.Running.{Running}
use Rattle.moka_machine.proofs.Newest.{other_has, set_beside, set_newest}
use Rattle.moka_machine.proofs.calls.Calls.put_back.Goals as goal

pub returns-then-call-self : goal.returns-then-call-self
returns-then-call-self g c = λ n.
    let s = c.args.self.now in
    set_newest s.last c.args.call n (Some (Some c.args.running)) s.newest (get nat_eq s.places n) c.if-call-self.true

pub put_back_among-requires : goal.put_back_among-requires
put_back_among-requires g c =
    let s = c.args.self.now in
    subst (λ (o : Option (Option (Running g.row.K.Denot g.row.V.Denot g.row.E.Denot))). IsSome o)
    (other_has s.last c.args.call s.newest (get nat_eq s.places c.args.call) c.if-call-self.false) c.requires

pub returns-else-call-self : goal.returns-else-call-self
returns-else-call-self g c = λ n.
    let s = c.args.self.now in
    ap (λ o. cond (s.last == n) s.newest o) (c.put_back_among.ensures n)
    ∙ set_beside s.last c.args.call n s.newest (Some (Some c.args.running)) (get nat_eq s.places n) c.if-call-self.false
