-- The call has its place, among the others or as the newest.
use Rattle.std.proofs.Common.{◌==◌, nat_eq, cond, Some, ap, ◌∙◌}
use Rattle.std.specs.HashMap.{get}
use Rattle.moka_machine.specs.Calls.{place_at}
use Rattle.moka_machine.proofs.Newest.{set_before, set_latest}
use Rattle.moka_machine.proofs.calls.Calls.add.Goals as goal

pub returns-then-call-self : goal.returns-then-call-self
returns-then-call-self g c = λ n.
    let s = c.args.self.now in
    ap (λ o. cond (s.last == n) s.newest o) (c.put.ensures n)
    ∙ set_before s.last c.args.call n s.newest (Some (Some c.args.running)) (get nat_eq s.places n) c.if-call-self.true

pub returns : goal.returns
returns g c = λ n.
    let s = c.args.self.now in
    let m = c.go_on_to.new.self in
    set_latest m.last c.args.call n (Some (Some c.args.running)) m.newest (get nat_eq m.places n) (place_at s n) c.go_on_to.ensures.last (c.go_on_to.ensures.others n)
