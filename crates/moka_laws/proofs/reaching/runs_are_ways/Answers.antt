use Rattle.moka_laws.proofs.AlongRuns.{runs_ways}
use Rattle.moka_laws.proofs.reaching.runs_are_ways.Goals as goal

pub returns : goal.returns
returns g c = record { ways = runs_ways g.K.PartialEq.eq }
