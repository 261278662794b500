use Rattle.moka_hist.specs.Run.{Any}
use Rattle.moka_laws.proofs.Reached.{go_on}
use Rattle.moka_laws.proofs.reaching.run_goes_on.Goals as goal

pub returns : goal.returns
returns g c = record { goes_on = λ s m t es rs e r run happens. go_on g.K.PartialEq.eq Any s m t es rs e r run happens tt }
