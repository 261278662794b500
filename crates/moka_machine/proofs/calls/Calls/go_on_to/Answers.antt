-- The newest call keeps its place, among the others.
use Rattle.std.proofs.Common.{◌==◌, nat_eq, cond, ap, ◌∙◌}
use Rattle.std.specs.HashMap.{get}
use Rattle.moka_machine.proofs.Newest.{other_has}
use Rattle.moka_machine.proofs.calls.Calls.go_on_to.Goals as goal

pub returns-then-self-call-clause-others : goal.returns-then-self-call-clause-others
returns-then-self-call-clause-others g c = λ n apart.
    let s = c.args.self.now in
    other_has c.args.call n c.take.new.self (get nat_eq c.set_place.new.places n) apart
    ∙ c.set_place.ensures n
    ∙ ap (λ o. cond (s.last == n) o (get nat_eq s.places n)) c.take.ensures.value
