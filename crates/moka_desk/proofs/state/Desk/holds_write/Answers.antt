use Rattle.std.proofs.Common.{sym, ap, ◌∙◌, Some, rules}
use Rattle.moka_desk.specs.Writes.{write_part}
use Rattle.moka_desk.proofs.Tested.{own_place, taken_place, no_place}
use Rattle.moka_desk.proofs.state.Desk.holds_write.Goals as goal

pub returns-in-Some-Own : goal.returns-in-Some-Own
returns-in-Some-Own g c = λ w s.
    let t = c.in-Some-Own in
    own_place _ t.field-0-0 c.args.call c.args.write _
    (sym (c.held_by.ensures (write_part w) s.writes) ∙ t.is ∙ ap Some t.field-0-is) c.number.ensures

pub returns-in-Some-TookUp : goal.returns-in-Some-TookUp
returns-in-Some-TookUp g c = λ w s.
    let t = c.in-Some-TookUp in
    taken_place _ t.held c.args.call c.args.write _
    (sym (c.held_by.ensures (write_part w) s.writes) ∙ t.is ∙ ap Some t.field-0-is) ((λ h. search rules), (λ h. search rules))

pub returns-in-None : goal.returns-in-None
returns-in-None g c = λ w s. no_place _ c.args.call c.args.write (sym (c.held_by.ensures (write_part w) s.writes) ∙ c.in-None.is)
