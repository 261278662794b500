use Rattle.moka_callers.proofs.Stored.{are_made}
use Rattle.moka_callers.proofs.contents.commits_are_made.Goals as goal

pub returns : goal.returns
returns g c = record { made = are_made g.K.PartialEq.eq }
