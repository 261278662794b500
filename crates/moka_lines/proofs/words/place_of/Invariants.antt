use Rattle.std.proofs.Common.{◌≡◌, ℕ, ◌<◌, ◌≤◌, ◌-◌, get_or, eqb, false, length}
use Rattle.moka_lines.proofs.words.place_of.Given as goal

abbrev pub invariant-loop-first : goal.invariant-loop-first
invariant-loop-first l =
    record {
      within : l.first ≤ length l.bytes;
      before : (k : ℕ) → k < l.first → eqb (get_or l.bytes k 0) l.mark ≡ false;
    }

abbrev pub decreases-loop-first : goal.decreases-loop-first
decreases-loop-first l = length l.bytes - l.first

abbrev pub invariant-loop-first-2 : goal.invariant-loop-first-2
invariant-loop-first-2 l =
    record {
      within : l.first ≤ length l.bytes;
      before : (k : ℕ) → k < l.first → eqb (get_or l.bytes k 0) l.mark ≡ false;
    }

abbrev pub decreases-loop-first-2 : goal.decreases-loop-first-2
decreases-loop-first-2 l = length l.bytes - l.first
