-- Those that are over are the reference's candidates.
use Rattle.std.proofs.Common.{◌∙◌}
use Rattle.moka_desk.proofs.Pendings.{over_are}
use Rattle.moka_desk.proofs.state.Desk.candidates.Goals as goal

pub returns : goal.returns
returns g c = λ w h.
    let desk = c.args.self.now in
    over_are desk.writes.held.holdings w desk.clock desk.last c.earliest-pending.result desk.predicates.registered.items _ h.clock h.last h.predicates.registered h.writes.holding c.earliest-pending.ensures
    (c.from_vec.ensures ∙ c.in_ok-over.ensures)
