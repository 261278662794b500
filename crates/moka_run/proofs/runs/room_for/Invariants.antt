-- What the events so far tell is copied.
use Rattle.std.proofs.Common.{◌≡◌, take}
use Rattle.moka_run.specs.Running.{told_in}
use Rattle.moka_run.proofs.runs.room_for.Given as goal

abbrev pub invariant-loop-event : goal.invariant-loop-event
invariant-loop-event g l = record { copied : l.told.items ≡ told_in (take l.event-index l.events) }
