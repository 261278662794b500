-- Each call that waits has one place.
use Rattle.std.proofs.Common.{subst}
use Rattle.moka_sync.specs.Tickets.{ticket_of}
use Rattle.moka_sync.specs.Waiting.{Waiting, AreOnce}
use Rattle.moka_sync.proofs.Stands.{AreOnce-kept}
use Rattle.moka_sync.proofs.wait_list.WaitList.len.Goals as goal

pub returns-clause-once : goal.returns-clause-once
returns-clause-once c =
    let w = c.self.inside in
    subst (λ (v : Waiting). AreOnce v.calls) c.self.view_is (AreOnce-kept (ticket_of w.tickets) w.places w.next c.self.invariant.kept)
