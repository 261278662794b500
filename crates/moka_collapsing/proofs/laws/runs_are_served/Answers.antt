use Rattle.moka_collapsing.proofs.Serves.{all_served}
use Rattle.moka_collapsing.proofs.laws.runs_are_served.Goals as goal

pub returns : goal.returns
returns c = all_served c.requests_are_of_all_bytes.ensures.adds
