use Rattle.moka_workload.specs.Turns.{events_in}
use Rattle.moka_workload.proofs.Places.{append_next}
use Rattle.moka_workload.proofs.whole.push_turn.Goals as goal

pub loop-at-preserved : goal.loop-at-preserved
loop-at-preserved c =
    append_next c.args.events.now.items (events_in c.args.turn) c.loop-at.events.items
    c.push.new.self.items c.loop-at.at c.event.result c.loop-at.invariant c.event.ensures
    c.in_ok-push.ensures.items
