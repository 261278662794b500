use Rattle.std.proofs.Common.{◌≡◌, ℕ, cond, false}
use Rattle.moka_sync.specs.Waiting.{waits}
use Rattle.moka_kept.specs.Parked.{is_parked}
use Rattle.moka_kept.proofs.parked.Parked.hand_each.Given as goal

abbrev pub invariant-loop-call : goal.invariant-loop-call
invariant-loop-call l = (n : ℕ) → is_parked l.self n ≡ cond (waits n l.yielded) false (is_parked l.initial.self n)
