-- The line says the log's size, the time to live and the listener.
use Rattle.std.proofs.Common.{Some, refl, arith}
use Rattle.std.specs.Fmt.{digits}
use Rattle.moka_make.proofs.laws.made_as_scheduled.Goals as goal

pub returns : goal.returns
unfolding digits
returns c = record {
  said = Some 64;
  spelled = refl;
  size = refl;
  range = (omega arith, omega arith);
  fit = record { capacity = tt; seed = tt; live = omega arith; idle = tt };
}
