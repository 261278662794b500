use Rattle.std.proofs.Common.{◌≡◌, ◌==◌, drop}
use Rattle.std.specs.List.{list_any}
use Rattle.moka_hist.specs.Visits.{number_of}
use Rattle.moka_desk.proofs.applied.is_among.Given as goal

abbrev pub invariant-loop-write : goal.invariant-loop-write
invariant-loop-write l = list_any (λ w. number_of w == l.number) l.writes ≡ list_any (λ w. number_of w == l.number) (drop l.write-index l.writes)
