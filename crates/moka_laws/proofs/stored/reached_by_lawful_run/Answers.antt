use Rattle.moka_hist.specs.Places.{IsLawful}
use Rattle.moka_hist.specs.Run.{Any}
use Rattle.moka_laws.proofs.Between.{run_more}
use Rattle.moka_laws.proofs.Reached.{run_reached}
use Rattle.moka_laws.proofs.stored.reached_by_lawful_run.Goals as goal

pub returns : goal.returns
returns g c = record {
  reached = λ s t es rs h run.
      run_reached g.K.PartialEq.eq s t es rs h (run_more g.K.PartialEq.eq (IsLawful g.K.PartialEq.eq) Any (λ v i p. tt) s t es rs h run);
}
