use Rattle.std.proofs.Common.{Some, ap, subst, sym, ◌∙◌}
use Rattle.std.specs.Option.{option_map}
use Rattle.moka_map.specs.Calls.{GivesOf}
use Rattle.moka_map.proofs.Calls.{gives}
use Rattle.moka_map.proofs.hash_map.HashMap.get_key_value_and.Goals as goal

pub returns-in-Some-clause-gives : goal.returns-in-Some-clause-gives
returns-in-Some-clause-gives g c q names = subst (λ o. GivesOf g.W.FnOnce c.args.with_entry o (Some c.with_entry.result))
    (ap (option_map {U = g.row.K.Denot × g.row.V.Denot} (λ p. (p.0.now, p.1.now))) (sym c.in-Some.is) ∙ c.find.ensures q names)
    (gives _ _ _ _ _ c.with_entry.ensures)
