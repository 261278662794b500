use Rattle.moka_calls.proofs.Laying.{doubled}
use Rattle.moka_calls.proofs.layout.grown_size.Goals as goal

pub returns-then-size-stored-clause-power : goal.returns-then-size-stored-clause-power
returns-then-size-stored-clause-power c = doubled c.args.size c.requires.power
