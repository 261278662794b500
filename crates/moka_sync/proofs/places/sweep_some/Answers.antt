-- Where there are no more places than tickets each place stands.
use Rattle.std.proofs.Common.{◌≤◌, length, sym, arith}
use Rattle.moka_sync.specs.Tickets.{ticket_of}
use Rattle.moka_sync.specs.Standing.{standing_places}
use Rattle.moka_sync.proofs.Stands.{standing_places-all, standing-length}
use Rattle.moka_sync.proofs.places.sweep_some.Goals as goal

pub returns-else-len : goal.returns-else-len
returns-else-len c =
    let f = ticket_of c.args.tickets.now in
    let xs = c.args.places.now in
    let same = standing-length f xs in
    let few : length xs ≤ length (standing_places f xs) = omega arith in
    sym (standing_places-all f xs few)
