use Rattle.std.proofs.Common.{◌≡◌, true, sym, ◌∙◌}
use Rattle.moka_hist.specs.Visits.{is_running}
use Rattle.moka_desk.proofs.Allowed.{running_may_end}
use Rattle.moka_desk.proofs.state.Desk.hear.Goals as goal

pub returns-clause-makes : goal.returns-clause-makes
returns-clause-makes g c = λ w h.
    let number = c.args.number in
    let here : c.is_running.result ≡ true = c.if-not-is_running.false in
    let runs : is_running w number ≡ true =
    sym (h.notices.running number) ∙ sym c.is_running.ensures ∙ here in
    c.end.ensures.makes w h (running_may_end (w.notices number) runs)
