use Rattle.std.proofs.Common.{refl}
use Rattle.moka_parts.proofs.Histories.{changes_in-prefix}
use Rattle.moka_parts.proofs.named.NamedPartsSharedTable.look.Goals as goal

pub returns-clause-grows : goal.returns-clause-grows
returns-clause-grows g c = rw (← c.seat.view_is) (changes_in-prefix c.seat.inside.front c.find.new.me c.find.ensures.grows)

pub returns-clause-rests : goal.returns-clause-rests
returns-clause-rests g c = rw (← c.seat.view_is) refl
