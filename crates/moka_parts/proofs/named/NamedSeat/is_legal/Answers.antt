use Rattle.moka_parts.proofs.named.NamedSeat.is_legal.Goals as goal

pub returns : goal.returns
returns g c = rw (← c.self.view_is) c.is_legal.ensures
