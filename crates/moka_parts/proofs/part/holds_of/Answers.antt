use Rattle.std.proofs.Common.{refl}
use Rattle.moka_parts.proofs.part.holds_of.Goals as goal

pub returns-in-Some : goal.returns-in-Some
returns-in-Some g c =
    rw c.in-Some.is (record { key = c.in-Some.key; value = c.in-Some.value; shows = (refl, refl); met = c.condition.ensures })
