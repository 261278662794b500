use Rattle.std.proofs.Common.{◌≡◌, Option, Some, None, refl}
use Rattle.moka_desk.proofs.Waiters.{nobody}
use Rattle.moka_desk.proofs.locks.Locks.new.Goals as goal

pub returns : goal.returns
returns g c = record {
  holders = λ k. rw c.with_hasher.ensures.empty refl;
  locked = λ n. rw c.new.ensures.empty refl;
  kept = λ n. rw c.new.ensures.empty refl;
  holds = λ k n is. absurd (nobody n is);
  held = λ k n is. let no : ◌≡◌ {A = Option g.row.K.Denot} None (Some k) = is in cc;
}
