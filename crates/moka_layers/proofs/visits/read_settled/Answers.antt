-- Memory is wanted to copy how the owner ended.
use Rattle.moka_hist.specs.Visits.{settlement_for}
use Rattle.moka_desk.proofs.Outcomes.{on_err}
use Rattle.moka_layers.proofs.Visited.{copied_needs}
use Rattle.moka_layers.proofs.visits.read_settled.Goals as goal

pub returns-in_err-settled-clause-err_needs : goal.returns-in_err-settled-clause-err_needs
returns-in_err-settled-clause-err_needs g c =
    on_err c.from_residual.result (λ handed w h is. copied_needs (settlement_for w c.args.call) (c.in_err-settled.ensures.needs w h))
