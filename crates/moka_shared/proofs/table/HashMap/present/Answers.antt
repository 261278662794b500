use Rattle.std.proofs.Common.{Some, ap, inl, refl, sym}
use Rattle.std.specs.Option.{option_map}
use Rattle.std.proofs.Common.{◌∙◌}
use Rattle.moka_shared.proofs.table.HashMap.present.Goals as goal

pub returns-in-Here-clause-puts : goal.returns-in-Here-clause-puts
returns-in-Here-clause-puts g c = λ value.
    let here = c.in-Here.ensures.stands in
    ((refl, refl), ap Some here.value_is ∙ sym (ap (option_map (λ p. p.1)) here.map_is))

pub returns-in-Memory-clause-puts : goal.returns-in-Memory-clause-puts
returns-in-Memory-clause-puts g c = λ value. record { mine = refl; none = inl refl }

pub returns-in-Here-clause-exchange : goal.returns-in-Here-clause-exchange
returns-in-Here-clause-exchange g c = (c.args.number, c.requires.stored)
