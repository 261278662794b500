use Rattle.std.proofs.Common.{cond, None, sym, ap, ◌∙◌}
use Rattle.std.proofs.lemmas.Bool.{eq-eqb, ne_eqb}
use Rattle.moka_machine.specs.Calls.{held_in}
use Rattle.moka_machine.proofs.call_places.other_held.Goals as goal

pub returns-in-true : goal.returns-in-true
returns-in-true g c = ap (λ b. cond b None (held_in c.args.place.now)) (sym (eq-eqb c.args.call c.args.newest c.in-true.is))

pub returns-in-false : goal.returns-in-false
returns-in-false g c =
    c.held_number.ensures ∙ ap (λ b. cond b None (held_in c.args.place.now)) (sym (ne_eqb c.args.call c.args.newest c.in-false.is))
