use Rattle.moka_desk.specs.Writes.{write_part}
use Rattle.moka_desk.proofs.Tested.{none_is}
use Rattle.moka_desk.proofs.state.Desk.holds_nothing.Goals as goal

pub returns : goal.returns
returns g c = λ w s. none_is _ _ _ c.is_none.ensures (c.held_by.ensures (write_part w) s.writes)
