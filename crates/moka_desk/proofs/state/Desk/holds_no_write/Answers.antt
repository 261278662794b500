use Rattle.std.proofs.Common.{sym, ap, ◌∙◌, Some}
use Rattle.moka_desk.specs.Writes.{write_part}
use Rattle.moka_desk.proofs.Tested.{took_one, own_not_taken, none_not_taken}
use Rattle.moka_desk.proofs.state.Desk.holds_no_write.Goals as goal

pub returns-in-Some-TookUp : goal.returns-in-Some-TookUp
returns-in-Some-TookUp g c = λ w s.
    let t = c.in-Some-TookUp in
    took_one _ t.field-0-0 (sym (c.held_by.ensures (write_part w) s.writes) ∙ t.is ∙ ap Some t.field-0-is)

pub returns-in-Some-Own : goal.returns-in-Some-Own
returns-in-Some-Own g c = λ w s.
    let t = c.in-Some-Own in
    own_not_taken _ t.field-0-0 (sym (c.held_by.ensures (write_part w) s.writes) ∙ t.is ∙ ap Some t.field-0-is)

pub returns-in-None : goal.returns-in-None
returns-in-None g c = λ w s. none_not_taken _ (sym (c.held_by.ensures (write_part w) s.writes) ∙ c.in-None.is)
