use Rattle.std.proofs.Common.{refl}
use Rattle.moka_calls.proofs.layout.next_size.Goals as goal

pub returns-in-None-clause-power : goal.returns-in-None-clause-power
returns-in-None-clause-power c = (7, refl)

pub returns-in-Some-clause-size : goal.returns-in-Some-clause-size
returns-in-Some-clause-size c = rw c.in-Some.is (c.grown_size.ensures.size c.in-Some.field-0)
