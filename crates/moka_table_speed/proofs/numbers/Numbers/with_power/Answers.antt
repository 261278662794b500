use Rattle.std.proofs.Common.{arith}
use Rattle.std.proofs.lemmas.Nat.{one_shl}
use Rattle.moka_table_speed.proofs.numbers.Numbers.with_power.Goals as goal

pub with_length-requires : goal.with_length-requires
with_length-requires c = (c.args.power, one_shl c.args.power 64 (omega arith))
