use Rattle.moka_laws.proofs.Disabled.{disabled_nothing}
use Rattle.moka_laws.proofs.Lawfully.{lawfully}
use Rattle.moka_laws.proofs.removals.disabled_stores_nothing.Goals as goal

pub returns : goal.returns
returns g c = record {
  nothing = disabled_nothing g.K.PartialEq.eq
      (lawfully g.K.PartialEq.eq g.met.K.Eq.laws);
}
