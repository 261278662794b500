-- Those so far that are over are listed.
use Rattle.std.proofs.Common.{◌≡◌, map, filter, take}
use Rattle.moka_hist.specs.Visits.{named_of}
use Rattle.moka_desk.specs.Predicates.{is_over_by}
use Rattle.moka_desk.proofs.predicates.Predicates.over.Given as goal

abbrev pub invariant-loop-registered : goal.invariant-loop-registered
invariant-loop-registered l = l.over.items ≡ map named_of (filter (is_over_by l.clock l.pending) (take l.registered-index l.self.registered.items))
