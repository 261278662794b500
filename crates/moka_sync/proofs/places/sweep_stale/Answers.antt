-- What stands after a sweep stood before.
use Rattle.moka_sync.specs.Tickets.{ticket_of}
use Rattle.moka_sync.proofs.Stands.{standing_places-twice, standing_places-short, AreBelow-standing}
use Rattle.moka_sync.proofs.places.sweep_stale.Goals as goal

pub returns-then-len-clause-same : goal.returns-then-len-clause-same
returns-then-len-clause-same c = rw c.sweep.ensures (standing_places-twice (ticket_of c.args.tickets.now) c.args.places.now)

pub returns-then-len-clause-below : goal.returns-then-len-clause-below
returns-then-len-clause-below c =
    λ n h. rw c.sweep.ensures (AreBelow-standing (ticket_of c.args.tickets.now) n c.args.places.now h)

pub returns-then-len-clause-short : goal.returns-then-len-clause-short
returns-then-len-clause-short c = rw c.sweep.ensures (standing_places-short (ticket_of c.args.tickets.now) c.args.places.now)
