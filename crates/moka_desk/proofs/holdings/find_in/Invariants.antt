use Rattle.std.proofs.Common.{◌≡◌, drop}
use Rattle.std.specs.Prelude.{nat_eq}
use Rattle.std.specs.Map.{lookup}
use Rattle.moka_desk.proofs.holdings.find_in.Given as goal

abbrev pub invariant-loop-held : goal.invariant-loop-held
invariant-loop-held l = lookup (nat_eq l.call) l.rest ≡ lookup (nat_eq l.call) (drop l.held-index l.rest)
