-- The seed is the number that is read.
use Rattle.moka_make.proofs.Spelled.{seed_found, seed_none}
use Rattle.moka_make.proofs.words.seed_in.Goals as goal

pub returns-clause-found : goal.returns-clause-found
returns-clause-found c = seed_found c.args.digits.now c.u64_in.result c.u64_in.ensures

pub returns-clause-none : goal.returns-clause-none
returns-clause-none c = seed_none c.args.digits.now c.u64_in.result c.u64_in.ensures
