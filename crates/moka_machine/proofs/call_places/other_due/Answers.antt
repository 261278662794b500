use Rattle.std.proofs.Common.{◌≡◌, Bool, cond, None, IfOk, sym, ap, subst}
use Rattle.std.proofs.lemmas.Bool.{eq-eqb, ne_eqb}
use Rattle.moka_machine.specs.Calls.{due_in}
use Rattle.moka_machine.proofs.call_places.other_due.Goals as goal

pub returns-in-true : goal.returns-in-true
returns-in-true g c = ap (λ b. cond b None (due_in c.args.place.now)) (sym (eq-eqb c.args.call c.args.newest c.in-true.is))

pub returns-in-false : goal.returns-in-false
returns-in-false g c =
    subst (λ (b : Bool). IfOk c.due_at.result (λ due. due ≡ cond b None (due_in c.args.place.now)))
    (sym (ne_eqb c.args.call c.args.newest c.in-false.is)) c.due_at.ensures
