-- A call waits where it has a ticket.
use Rattle.std.proofs.Common.{◌≡◌, ◌∙◌, sym, ap, is_some, subst}
use Rattle.moka_sync.specs.Tickets.{ticket_of}
use Rattle.moka_sync.specs.Waiting.{Waiting, waits}
use Rattle.moka_sync.proofs.Stands.{waits-ticket}
use Rattle.moka_sync.proofs.wait_list.WaitList.contains.Goals as goal

pub returns : goal.returns
returns c =
    let w = c.self.inside in
    subst (λ (v : Waiting). c.is_some.result ≡ waits c.args.call v.calls) c.self.view_is
    (c.is_some.ensures ∙ ap is_some c.get.ensures ∙ sym (waits-ticket (ticket_of w.tickets) w.places w.next c.args.call c.self.invariant.kept))
