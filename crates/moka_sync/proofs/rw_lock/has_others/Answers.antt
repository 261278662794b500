-- There are others where the list is longer than what the call has of it.
use Rattle.std.proofs.Common.{◌≡◌, ◌∙◌, sym}
use Rattle.moka_hist.specs.Finite.{times}
use Rattle.moka_sync.proofs.Others.{has_others-times, times-waiting, times-absent}
use Rattle.moka_sync.proofs.rw_lock.has_others.Goals as goal
use Rattle.moka_sync.proofs.rw_lock.has_others.Goals.{then-contains, else-contains}

pub returns : goal.returns
returns c =
    let xs = c.args.list.now.calls in
    let call = c.args.call in
    let own : c.if-contains.own ≡ times call xs =
    elim c.if-contains.branch [
      | then-contains w ↦ w.own-is ∙ sym (times-waiting call xs c.len.ensures.once (sym c.contains.ensures ∙ w.if-contains.true))
      | else-contains w ↦ w.own-is ∙ sym (times-absent call xs (sym c.contains.ensures ∙ w.if-contains.false))
    ] in
    rw (own, c.len.ensures.len) (sym (has_others-times call xs))
