-- A fresh flow rests.
use Rattle.std.proofs.Common.{sym, subst}
use Rattle.moka_init.specs.declared.flow.Flow.{Flow}
use Rattle.moka_kept.specs.Rests.{Rests}
use Rattle.moka_kept.proofs.Reached.{fresh_none}
use Rattle.moka_kept.proofs.number.Number.begin.Goals as goal

pub returns-clause-rests : goal.returns-clause-rests
returns-clause-rests g c =
    subst (λ (f : Flow g.row.K.Denot g.row.V.Denot g.row.E.Denot). Rests f) (sym c.of.ensures) (record { live = c.new.ensures.live; begun = fresh_none c.new.result c.new.ensures.begun })
