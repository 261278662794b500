-- A look is a load that is begun.
use Rattle.std.proofs.Common.{sym, refl, subst}
use Rattle.moka_behind.specs.declared.pairs.Looked.{Looked}
use Rattle.moka_behind.specs.Looking.{Looks}
use Rattle.moka_behind.proofs.Running.{looks}
use Rattle.moka_behind.proofs.pairs.look.Goals as goal

pub run-requires : goal.run-requires
run-requires c = record { plain = refl; stands = (c.requires.1.small, c.requires.1.stands) }

pub returns : goal.returns
returns c = λ ps h.
    subst (λ (l : Looked). Looks l c.args.key ps c.run.new.pairs) (sym c.looked_of.ensures)
    (looks c.run.new.pairs c.args.pairs.now c.args.key ps c.in_ok-ran.ran.0 c.in_ok-ran.ran.1 c.in_ok-ran.ensures h)
